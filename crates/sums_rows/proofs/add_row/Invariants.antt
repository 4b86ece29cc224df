-- `sums_rows::add_row` meets its contract.
use Rattle.std.proofs.Common.{◌≡◌, ◌+◌, ◌++◌, drop, ℕ, ◌*◌, ◌%◌, ◌^◌, ◌<◌, List, get_or}
use Rattle.algebra.specs.Lists.{tab}
use Rattle.sums_rows.proofs.add_row.Given as goal

-- a sum with its term
abbrev pub term : List ℕ → ℕ → List ℕ → ℕ → ℕ
term sums weight row j = (get_or sums j 0 + weight * get_or row j 0) % 2 ^ 64

abbrev pub invariant-loop-j : goal.invariant-loop-j
invariant-loop-j l =
    record {
      is : l.sums ≡ tab (term l.initial.sums l.weight l.row) l.j ++ drop l.j l.initial.sums;
      fits : (i : ℕ) → get_or l.initial.sums i 0 < 2 ^ 64;
    }
