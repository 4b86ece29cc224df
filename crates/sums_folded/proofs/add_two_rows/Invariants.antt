-- `sums_folded::add_two_rows` meets its contract.
use Rattle.sums_folded.specs.Internal.{folded}
use Rattle.std.proofs.Common.{◌≡◌, ◌+◌, ◌++◌, drop, ℕ, ◌*◌, ◌%◌, ◌^◌, List, get_or}
use Rattle.algebra.specs.Lists.{tab}
use Rattle.sums_folded.proofs.add_two_rows.Given as goal

-- a sum with both its terms
abbrev pub terms : List ℕ → ℕ → List ℕ → ℕ → List ℕ → ℕ → ℕ
terms sums weight row second next j = (get_or sums j 0 + folded (weight * get_or row j 0) (second * get_or next j 0)) % 2 ^ 64

abbrev pub invariant-loop-j : goal.invariant-loop-j
invariant-loop-j l = l.sums ≡ tab (terms l.initial.sums l.weight l.row l.second l.next) l.j ++ drop l.j l.initial.sums
