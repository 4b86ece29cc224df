-- `sums_folded::add_rows` meets its contract.
use Rattle.std.proofs.Common.{◌≡◌, ℕ, ◌+◌, ◌*◌, ◌/◌, length, get_or, drop, ap, ◌∙◌, arith}
use Rattle.sums.proofs.Steps.{sums_to, length_sums, sums_none, row_entry, rest_more}
use Rattle.sums_folded.specs.Internal.{folded, paired_two}
use Rattle.sums_folded.proofs.Steps.{pairs_more, pairs_last, row_product, all_pairs}
use Rattle.sums_folded.proofs.add_rows.Invariants.{terms}
use Rattle.sums_folded.proofs.add_rows.Goals as goal
use Rattle.sums_folded.proofs.add_rows.Goals.{After-add_pair-then-pairs-weights}

pub loop-c-init : goal.loop-c-init
loop-c-init c =
    let a = c.args in
    let start : 0 ≡ 0 * 2 * a.stride = omega arith in
    record {
      is = sums_none a.sums.now (terms a.weights.now a.source.now a.stride) (λ j l. (c.type_inv.sums j).fits);
      row = ap (λ (k : ℕ). drop k a.source.now) start;
    }

pub loop-c-preserved : goal.loop-c-preserved
loop-c-preserved c =
    let a = c.args in
    let l = c.loop-c in
    let pair = c.add_pair in
    let next = c.next_rows-next.result.now in
    let second = rest_more a.source.now l.rest.now next (l.c * 2) a.stride l.invariant.row c.next_rows-next.ensures in
    let third = rest_more a.source.now next c.next_rows-rest.result.now (l.c * 2 + 1) a.stride second c.next_rows-rest.ensures in
    let two : l.c * 2 + 1 + 1 ≡ (l.c + 1) * 2 = omega arith in
    let product = row_entry a.source.now in
    record {
      is =
          pair.ensures
          ∙ pairs_more folded (length a.weights.now) (row_product a.weights.now a.source.now a.stride) a.sums.now l.sums l.c l.invariant.is
          _ _ (product l.rest.now a.stride (l.c * 2) l.invariant.row (get_or a.weights.now (l.c * 2) 0))
          (omega arith) _ _ (product next a.stride (l.c * 2 + 1) second (get_or a.weights.now (l.c * 2 + 1) 0));
      row = third ∙ ap (λ (n : ℕ). drop (n * a.stride) a.source.now) two;
    }

-- the sums after an odd last row
last : (c : After-add_pair-then-pairs-weights)
    → let a = c.args in
    c.add_pair-then-pairs-weights.new.sums ≡ sums_to a.sums.now (terms a.weights.now a.source.now a.stride) (c.loop-c.c + 1)
last c =
    let a = c.args in
    let even : length a.weights.now / 2 ≡ c.loop-c.c = omega arith in
    let weight : ℕ → ℕ = λ k. get_or a.weights.now (k * 2) 0 in
    let rest = c.loop-c.rest.now in
    c.add_pair-then-pairs-weights.ensures
    ∙ ap (λ (k : ℕ). paired_two folded c.loop-c.sums (weight k) rest 0 rest) even
    ∙ pairs_last folded (length a.weights.now) (row_product a.weights.now a.source.now a.stride) a.sums.now c.loop-c.sums c.loop-c.c c.loop-c.invariant.is
    (weight c.loop-c.c) rest (row_entry a.source.now rest a.stride (c.loop-c.c * 2) c.loop-c.invariant.row (weight c.loop-c.c))
    (omega arith)

pub shape_of-sums-then-pairs-weights : goal.shape_of-sums-then-pairs-weights
shape_of-sums-then-pairs-weights c =
    let a = c.args in
    ap length (last (goal.at.shape_of-sums-then-pairs-weights c).After-add_pair-then-pairs-weights) ∙ length_sums a.sums.now (terms a.weights.now a.source.now a.stride) (c.loop-c.c + 1)

pub returns-then-pairs-weights : goal.returns-then-pairs-weights
returns-then-pairs-weights c =
    let a = c.args in
    let half : c.loop-c.c + 1 ≡ (length a.weights.now + 1) / 2 = omega arith in
    last (goal.at.returns-then-pairs-weights c).After-add_pair-then-pairs-weights
    ∙ ap (sums_to a.sums.now (terms a.weights.now a.source.now a.stride)) half
    ∙ all_pairs a.weights.now a.source.now a.stride folded a.sums.now

pub shape_of-sums-else-pairs-weights : goal.shape_of-sums-else-pairs-weights
shape_of-sums-else-pairs-weights c =
    let a = c.args in
    ap length c.loop-c.invariant.is ∙ length_sums a.sums.now (terms a.weights.now a.source.now a.stride) c.loop-c.c

pub returns-else-pairs-weights : goal.returns-else-pairs-weights
returns-else-pairs-weights c =
    let a = c.args in
    let half : c.loop-c.c ≡ (length a.weights.now + 1) / 2 = omega arith in
    c.loop-c.invariant.is
    ∙ ap (sums_to a.sums.now (terms a.weights.now a.source.now a.stride)) half
    ∙ all_pairs a.weights.now a.source.now a.stride folded a.sums.now
