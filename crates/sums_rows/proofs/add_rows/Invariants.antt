-- `sums_rows::add_rows` meets its contract.
use Rattle.std.proofs.Common.{◌≡◌, ◌-◌, ◌*◌, length, drop}
use Rattle.sums.proofs.Steps.{sums_to}
use Rattle.sums_rows.proofs.Steps.{row_term}
use Rattle.sums_rows.proofs.add_rows.Given as goal

abbrev pub invariant-loop-left : goal.invariant-loop-left
invariant-loop-left l =
    let i = length l.weights - length l.left in
    record {
      is : l.sums ≡ sums_to l.initial.sums (row_term l.weights l.source l.stride) i;
      weights : l.left ≡ drop i l.weights;
      row : l.rest ≡ drop (i * l.stride) l.source;
    }

abbrev pub decreases-loop-left : goal.decreases-loop-left
decreases-loop-left l = length l.left
