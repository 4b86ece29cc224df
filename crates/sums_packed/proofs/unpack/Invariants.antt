-- `sums_packed::unpack` meets its contract.
use mathlib.Core.Path.{◌≡◌}
use mathlib.Core.Bool.{not}
use mathlib.Core.List.{List, ◌++◌}
use Prim.Native.Nat.{ℕ, ◌%◌}
use lib.Dec.{eqb}
use lib.ListN.{get_or, drop}
use Rattle.algebra.specs.Lists.{tab}
use Rattle.field.specs.declared.Modulus.{Modulus}
use Rattle.field.specs.Modulus.{prime}
use Rattle.sums_packed.specs.Internal.{half}
use Rattle.sums_packed.proofs.unpack.Given as goal

-- an element of the output
abbrev pub element : ℕ → Modulus → List ℕ → ℕ → ℕ
element upper modulus sums i = half (not (eqb upper 0)) (get_or sums i 0) % prime modulus

abbrev pub invariant-loop-j : goal.invariant-loop-j
invariant-loop-j g l = l.out ≡ tab (element g.row.UPPER l.modulus l.sums) l.j ++ drop l.j l.initial.out
