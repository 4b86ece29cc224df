-- `sums_rows::add_pair` meets its contract.
use Rattle.std.proofs.Common.{ℕ, ltb, List, length, ap, ◌∙◌, ltb-false}
use Rattle.algebra.proofs.Tests.{or_left, or_right}
use Rattle.sums_rows.specs.Internal.{plus}
use Rattle.sums_rows.proofs.add_pair.Goals as goal

pub add_two_rows-requires : goal.add_two_rows-requires
add_two_rows-requires c =
    let a = c.args in
    let short = ltb (length a.row.now) (length a.sums.now) in
    let thin = ltb (length a.next.now) (length a.sums.now) in
    let e = c.if-row-sums.false in
    (ltb-false _ _ (or_left short thin e), ltb-false _ _ (or_right short thin e))

pub returns-then-row-sums : goal.returns-then-row-sums
returns-then-row-sums c =
    let a = c.args in
    c.add_row-then-row-sums.ensures ∙ ap (λ (sums : List ℕ). plus sums a.second a.next.now) c.add_row.ensures
