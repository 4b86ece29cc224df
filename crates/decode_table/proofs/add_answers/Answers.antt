-- `decode_table::add_answers` meets its contract.
use mathlib.Core.Path.{◌≡◌, ap, ◌∙◌}
use mathlib.Core.List.{List}
use Prim.Native.Nat.{ℕ, ◌+◌, ◌*◌, ◌/◌}
use native.Mathlib.Omega.{arith}
use lib.ListN.{length, get_or, drop}
use Rattle.field.specs.Modulus.{prime}
use Rattle.sums.proofs.Steps.{sums_to, length_sums, sums_none, row_entry}
use Rattle.sums_folded.specs.Internal.{paired}
use Rattle.sums_folded.proofs.Steps.{pairs_more, pairs_last}
use Rattle.sums_modular.specs.Internal.{pair_term, plus_one}
use Rattle.decode_table.specs.Internal.{answer_term, answers_added}
use Rattle.decode_table.proofs.add_answers.Invariants.{terms}
use Rattle.decode_table.proofs.add_answers.Goals as goal
use Rattle.decode_table.proofs.add_answers.Goals.{After-add_row}

pub loop-c-init : goal.loop-c-init
loop-c-init c =
    sums_none c.args.sums.now _ (λ v l. (c.type_inv.sums v).fits)

-- the answer of an index, times its weight
own_term : (weights : List ℕ) (step : ℕ) (indices source : List ℕ) (size k : ℕ) (answer : List ℕ) → answer ≡ drop (get_or indices k 0 * size) source
    → (v : ℕ) → get_or weights (k * step) 0 * get_or answer v 0 ≡ answer_term weights step indices source size v k
unfolding answer_term
own_term weights step indices source size k answer e = row_entry source answer size (get_or indices k 0) e (get_or weights (k * step) 0)

pub overflow_mul-weight : goal.overflow_mul-weight
overflow_mul-weight c = let t = c.requires.weight (c.loop-c.c * 2) (omega arith) in omega arith

pub offset_bounds-weights-i : goal.offset_bounds-weights-i
offset_bounds-weights-i c = let t = c.requires.weight (c.loop-c.c * 2) (omega arith) in omega arith

pub bounds-weights-i : goal.bounds-weights-i
bounds-weights-i c = let t = c.requires.weight (c.loop-c.c * 2) (omega arith) in omega arith

pub overflow_mul-second : goal.overflow_mul-second
overflow_mul-second c = let t = c.requires.weight (c.loop-c.c * 2 + 1) (omega arith) in omega arith

pub offset_bounds-weights-i-in-loop-c : goal.offset_bounds-weights-i-in-loop-c
offset_bounds-weights-i-in-loop-c c = let t = c.requires.weight (c.loop-c.c * 2 + 1) (omega arith) in omega arith

pub bounds-weights-i-in-loop-c : goal.bounds-weights-i-in-loop-c
bounds-weights-i-in-loop-c c = let t = c.requires.weight (c.loop-c.c * 2 + 1) (omega arith) in omega arith

pub loop-c-preserved : goal.loop-c-preserved
loop-c-preserved c =
    let a = c.args in
    let i = c.loop-c.c * 2 in
    c.add_pair.ensures
    ∙ pairs_more (pair_term (prime a.modulus)) (length a.indices.now) (answer_term a.weights.now a.step a.indices.now a.source.now a.size)
    a.sums.now c.loop-c.sums c.loop-c.c c.loop-c.invariant _ _ (own_term a.weights.now a.step a.indices.now a.source.now a.size i _ c.answer_at-answer.ensures)
    (omega arith) _ _ (own_term a.weights.now a.step a.indices.now a.source.now a.size (i + 1) _ c.answer_at-next.ensures)

pub overflow_mul-weight-then-last-indices : goal.overflow_mul-weight-then-last-indices
overflow_mul-weight-then-last-indices c = let t = c.requires.weight (length c.args.indices.now / 2 * 2) (omega arith) in omega arith

pub offset_bounds-weights-last : goal.offset_bounds-weights-last
offset_bounds-weights-last c = let t = c.requires.weight (length c.args.indices.now / 2 * 2) (omega arith) in omega arith

pub bounds-weights-last : goal.bounds-weights-last
bounds-weights-last c = let t = c.requires.weight (length c.args.indices.now / 2 * 2) (omega arith) in omega arith

-- the sums after an odd last answer
last : (c : After-add_row)
    → let a = c.args in
    c.add_row.new.sums ≡ sums_to a.sums.now (terms (prime a.modulus) a.weights.now a.step a.indices.now a.source.now a.size) (c.loop-c.c + 1)
last c =
    let a = c.args in
    let q = prime a.modulus in
    let half : length a.indices.now / 2 ≡ c.loop-c.c = omega arith in
    let weight : ℕ → ℕ = λ k. get_or a.weights.now (k * 2 * a.step) 0 in
    c.add_row.ensures
    ∙ ap (λ (k : ℕ). plus_one q c.loop-c.sums (weight k) c.answer_at-answer-then-last-indices.result.now) half
    ∙ pairs_last (pair_term q) (length a.indices.now) (answer_term a.weights.now a.step a.indices.now a.source.now a.size)
    a.sums.now c.loop-c.sums c.loop-c.c c.loop-c.invariant (weight c.loop-c.c) _
    (own_term a.weights.now a.step a.indices.now a.source.now a.size (c.loop-c.c * 2) _ (c.answer_at-answer-then-last-indices.ensures ∙ ap (λ (k : ℕ). drop (get_or a.indices.now (k * 2) 0 * a.size) a.source.now) half))
    (omega arith)

pub shape_of-sums-then-last-indices : goal.shape_of-sums-then-last-indices
shape_of-sums-then-last-indices c =
    ap length (last (goal.at.shape_of-sums-then-last-indices c).After-add_row) ∙ length_sums c.args.sums.now _ (c.loop-c.c + 1)

-- every pair
all : (q : ℕ) (sums weights : List ℕ) (step : ℕ) (indices source : List ℕ) (size n : ℕ) → n ≡ (length indices + 1) / 2
    → sums_to sums (terms q weights step indices source size) n ≡ answers_added q sums weights step indices source size
unfolding answers_added sums_to paired
all q sums weights step indices source size n e = ap (sums_to sums (terms q weights step indices source size)) e

pub returns-then-last-indices : goal.returns-then-last-indices
returns-then-last-indices c =
    let a = c.args in
    last (goal.at.returns-then-last-indices c).After-add_row ∙ all (prime a.modulus) a.sums.now a.weights.now a.step a.indices.now a.source.now a.size (c.loop-c.c + 1) (omega arith)

pub shape_of-sums-else-last-indices : goal.shape_of-sums-else-last-indices
shape_of-sums-else-last-indices c =
    ap length c.loop-c.invariant ∙ length_sums c.args.sums.now _ c.loop-c.c

pub returns-else-last-indices : goal.returns-else-last-indices
returns-else-last-indices c =
    let a = c.args in
    c.loop-c.invariant ∙ all (prime a.modulus) a.sums.now a.weights.now a.step a.indices.now a.source.now a.size c.loop-c.c (omega arith)
