-- `masks::put_all` meets its contract.
use lib.ListN.{drop}
use Rattle.field.specs.Modulus.{prime}
use Rattle.masks.proofs.Loops.{Put}
use Rattle.masks.proofs.put_all.Given as goal

abbrev pub invariant-loop-i : goal.invariant-loop-i
invariant-loop-i l = Put (prime l.modulus) l.words l.out l.i (drop l.i l.words)
