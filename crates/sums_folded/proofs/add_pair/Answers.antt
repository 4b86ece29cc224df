-- `sums_folded::add_pair` meets its contract.
use Rattle.std.proofs.Common.{◌≤◌, ltb, length, sym, ◌∙◌, length-take-le, ltb-false}
use Rattle.algebra.proofs.Tests.{or_left, or_right}
use Rattle.sums_folded.specs.Internal.{folded}
use Rattle.sums_folded.proofs.Steps.{fronts_enough}
use Rattle.sums_folded.proofs.add_pair.Goals as goal
use Rattle.sums_folded.proofs.add_pair.Goals.{Else-row-n}

-- both rows are long enough
long : (c : Else-row-n)
    → let a = c.args in
    (length a.sums.now ≤ length a.row.now) × (length a.sums.now ≤ length a.next.now)
long c =
    let a = c.args in
    let short = ltb (length a.row.now) (length a.sums.now) in
    let thin = ltb (length a.next.now) (length a.sums.now) in
    (ltb-false _ _ (or_left short thin c.if-row-n.false), ltb-false _ _ (or_right short thin c.if-row-n.false))

pub slice_bounds-add_two_rows-end : goal.slice_bounds-add_two_rows-end
slice_bounds-add_two_rows-end c = sym (length-take-le _ _ (long (goal.at.slice_bounds-add_two_rows-end c).Else-row-n).0)

pub slice_bounds-add_two_rows-end-else-row-n : goal.slice_bounds-add_two_rows-end-else-row-n
slice_bounds-add_two_rows-end-else-row-n c = sym (length-take-le _ _ (long (goal.at.slice_bounds-add_two_rows-end-else-row-n c).Else-row-n).1)

pub returns-else-row-n : goal.returns-else-row-n
returns-else-row-n c =
    let a = c.args in
    c.add_two_rows-else-row-n.ensures ∙ fronts_enough folded a.sums.now a.weight a.row.now a.second a.next.now
