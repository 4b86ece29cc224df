-- `sums::reduce_row` meets its contract.
use mathlib.Core.Path.{◌≡◌}
use mathlib.Core.List.{◌++◌}
use Prim.Native.Nat.{◌%◌}
use lib.ListN.{get_or, drop}
use Rattle.algebra.specs.Lists.{tab}
use Rattle.field.specs.Modulus.{prime}
use Rattle.sums.proofs.reduce_row.Given as goal

abbrev pub invariant-loop-j : goal.invariant-loop-j
invariant-loop-j l = l.out ≡ tab (λ i. get_or l.sums i 0 % prime l.modulus) l.j ++ drop l.j l.initial.out
