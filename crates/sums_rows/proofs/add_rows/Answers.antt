-- `sums_rows::add_rows` meets its contract.
use Rattle.std.proofs.Common.{◌≡◌, ℕ, ◌+◌, ◌-◌, ◌*◌, List, length, get_or, drop, ap, ap₂, ◌∙◌, arith, length-drop, get_or-drop, drop-drop}
use borrow.Author.Tests.{ltb-true}
use Rattle.algebra.proofs.Lists.{rest_is}
use Rattle.sums.proofs.Steps.{sums_to, sums_none, rest_more}
use Rattle.sums_rows.specs.Internal.{plus}
use Rattle.sums_rows.proofs.Steps.{row_term, one_row, all_rows}
use Rattle.sums_rows.proofs.add_rows.Goals as goal

pub loop-left-init : goal.loop-left-init
loop-left-init c =
    let a = c.args in
    let none : length a.weights.now - length a.weights.now ≡ 0 = omega arith in
    let start : 0 ≡ 0 * a.stride = omega arith in
    record {
      is = rw none (sums_none a.sums.now (row_term a.weights.now a.source.now a.stride) (λ j l. (c.type_inv.sums j).fits));
      weights = rw none;
      row = rw none (ap (λ (k : ℕ). drop k a.source.now) start);
    }

-- the weight at k of those that are left
weight : (weights left : List ℕ) (i k n : ℕ) → left ≡ drop i weights → n ≡ i + k → get_or left k 0 ≡ get_or weights n 0
weight weights left i k n e at = ap (λ (xs : List ℕ). get_or xs k 0) e ∙ rw at (get_or-drop i weights k 0)

pub loop-left-preserved : goal.loop-left-preserved
loop-left-preserved c =
    let l = c.loop-left in
    let a = c.args in
    let ws = a.weights.now in
    let i = length ws - length l.left.now in
    let next = c.next_rows-next.result.now in
    let second = rest_more a.source.now l.rest.now next i a.stride l.invariant.row c.next_rows-next.ensures in
    let third = rest_more a.source.now next c.next_rows-rest.result.now (i + 1) a.stride second c.next_rows-rest.ensures in
    let more = one_row ws a.source.now a.stride a.sums.now in
    let once = more l.sums l.rest.now i l.invariant.is l.invariant.row in
    let twice = more (plus l.sums (get_or ws i 0) l.rest.now) next (i + 1) once second in
    let both = ap₂ (λ (x y : ℕ). plus (plus l.sums x l.rest.now) y next)
    (weight ws l.left.now i 0 i l.invariant.weights (omega arith)) (weight ws l.left.now i 1 (i + 1) l.invariant.weights (omega arith)) in
    let size : length l.left.now ≡ length ws - i = ap length l.invariant.weights ∙ length-drop i ws in
    let after : length ws - length (drop 2 l.left.now) ≡ i + 1 + 1 = omega (arith, length-drop 2 l.left.now) in
    let two : i + 2 ≡ i + 1 + 1 = omega arith in
    record {
      is = rw (rest_is l.left.now 2, after) (c.add_pair.ensures ∙ both ∙ twice);
      weights = rw (rest_is l.left.now 2, after) (ap (drop 2) l.invariant.weights ∙ drop-drop 2 i ws ∙ ap (λ (k : ℕ). drop k ws) two);
      row = rw (rest_is l.left.now 2, after) third;
    }

pub returns-then-left-lt1 : goal.returns-then-left-lt1
returns-then-left-lt1 c =
    let a = c.args in
    let l = c.loop-left in
    let all : length a.weights.now - length l.left.now ≡ length a.weights.now = omega (arith, ltb-true) in
    l.invariant.is
    ∙ ap (sums_to a.sums.now (row_term a.weights.now a.source.now a.stride)) all
    ∙ all_rows a.weights.now a.source.now a.stride a.sums.now

pub returns-in-len1 : goal.returns-in-len1
returns-in-len1 c =
    let a = c.args in
    let l = c.loop-left in
    let ws = a.weights.now in
    let i = length ws - length l.left.now in
    let size : length l.left.now ≡ length ws - i = ap length l.invariant.weights ∙ length-drop i ws in
    let all : i + 1 ≡ length ws = omega arith in
    c.add_row.ensures
    ∙ ap (λ (x : ℕ). plus l.sums x l.rest.now) (weight ws l.left.now i 0 i l.invariant.weights (omega arith))
    ∙ one_row ws a.source.now a.stride a.sums.now l.sums l.rest.now i l.invariant.is l.invariant.row
    ∙ ap (sums_to a.sums.now (row_term ws a.source.now a.stride)) all
    ∙ all_rows ws a.source.now a.stride a.sums.now
