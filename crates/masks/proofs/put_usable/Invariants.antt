-- `masks::put_usable` meets its contract.
use mathlib.Core.Path.{◌≡◌}
use Prim.Native.Nat.{◌+◌}
use lib.ListN.{drop}
use Rattle.field.specs.Modulus.{prime}
use Rattle.masks.specs.Drawing.{limit}
use Rattle.masks.proofs.Loops.{Put}
use Rattle.masks.proofs.put_usable.Given as goal

abbrev pub invariant-loop-word : goal.invariant-loop-word
invariant-loop-word l = record { is_last : l.last + 1 ≡ limit (prime l.modulus); so_far : Put (prime l.modulus) l.words l.out l.n (drop l.word-index l.words) }
