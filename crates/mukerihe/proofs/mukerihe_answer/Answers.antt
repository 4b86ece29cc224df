-- `mukerihe::mukerihe_answer` meets its contract.
use mathlib.Core.Path.{◌≡◌, refl, sym, ap, ap₂, ◌∙◌}
use mathlib.Core.Bool.{true}
use mathlib.Core.List.{List, ◌++◌}
use Prim.Native.Nat.{ℕ, ◌+◌, ◌-◌, ◌*◌, min}
use native.Mathlib.Omega.{arith}
use lib.ListN.{length, take, drop, length-drop}
use lib.Seq.{length-take-le}
use Rattle.std.specs.Prelude.{Result, Ok}
use Rattle.std.specs.Result.{is_ok}
use Rattle.std.proofs.lemmas.Result.{err_from_is_err_and}
use Rattle.algebra.proofs.Lists.{rest_is}
use Rattle.refusal.specs.declared.Refusal.{Refusal}
use Rattle.refusal.specs.Chain.{first, answered}
use Rattle.refusal.proofs.Chains.{unless_done}
use Rattle.refusal.proofs.Answered.{answered_done, is_done}
use Rattle.message_header.specs.declared.Header.{Header}
use Rattle.message_header.specs.Header.{header, header_of}
use Rattle.message.specs.Format.{payload, message_tests, examined}
use Rattle.message.proofs.Fields.{readable}
use Rattle.message.proofs.Parts.{Rest, copied_header}
use Rattle.mukerihe.specs.Host.{host_tests, host_after}
use Rattle.mukerihe.specs.Answer.{pair_header, pair_tests, host_answer, host_answer_tests, host_answer_after}
use Rattle.mukerihe.proofs.Answers.{Paired, paired, length_answer, headed_length, product_clear, done, first_refused, second_refused, pair_refused, read, carried_out, kept}
use Rattle.mukerihe.proofs.mukerihe_answer.Goals as goal

pub returns-in_err-g-clause-outcome : goal.returns-in_err-g-clause-outcome
returns-in_err-g-clause-outcome c =
    let p = err_from_is_err_and c.from_residual.result c.from_residual.ensures.1 in
    rw (p.1, p.2) (first_refused _ _ _ _ c.in_err-g.ensures)

pub returns-in_err-g-clause-bytes : goal.returns-in_err-g-clause-bytes
returns-in_err-g-clause-bytes c = kept _ _ _ _ (first_refused _ _ _ _ c.in_err-g.ensures)

pub returns-in_err-h-clause-outcome : goal.returns-in_err-h-clause-outcome
returns-in_err-h-clause-outcome c =
    let p = err_from_is_err_and c.from_residual-in_err-h.result c.from_residual-in_err-h.ensures.1 in
    rw (p.1, p.2) (second_refused _ _ _ _ c.in_ok-g.ensures _ c.in_err-h.ensures)

pub returns-in_err-h-clause-bytes : goal.returns-in_err-h-clause-bytes
returns-in_err-h-clause-bytes c = kept _ _ _ _ (second_refused _ _ _ _ c.in_ok-g.ensures _ c.in_err-h.ensures)

pub returns-in_err-check_pair-clause-outcome : goal.returns-in_err-check_pair-clause-outcome
returns-in_err-check_pair-clause-outcome c =
    let p = err_from_is_err_and c.from_residual-in_err-check_pair.result c.from_residual-in_err-check_pair.ensures.1 in
    rw (p.1, p.2) (pair_refused _ _ _ _ c.in_ok-g.ensures _ c.in_ok-h.ensures _ _ c.in_err-check_pair.ensures)

pub returns-in_err-check_pair-clause-bytes : goal.returns-in_err-check_pair-clause-bytes
returns-in_err-check_pair-clause-bytes c =
    kept _ _ _ _ (pair_refused _ _ _ _ c.in_ok-g.ensures _ c.in_ok-h.ensures _ _ c.in_err-check_pair.ensures)

-- what is known of two messages that pass their tests, by themselves and together
record Passed (a b out : List ℕ) (g h : Header) : Type 0 where
  accepted_a : first (message_tests a) ≡ 0
  header_a : g ≡ header_of a
  accepted_b : first (message_tests b) ≡ 0
  header_b : h ≡ header_of b
  clear : first (pair_tests g h (length out)) ≡ 0
  all : first (host_answer_tests a b (length out)) ≡ 0

passed : (a b out : List ℕ) (g h : Header) {u : Unit {0}} → Ok g ≡ examined a → Ok h ≡ examined b → Ok u ≡ answered (pair_tests g h (length out)) (tt {0})
    → Passed a b out g h
passed a b out g h one two both =
    let r = read a b out g one h two in
    let clear = (is_done _ _ _ both).0 in
    record {
      accepted_a = r.0;
      header_a = r.1;
      accepted_b = r.2;
      header_b = r.3;
      clear = clear;
      all = carried_out a b out g one h two clear;
    }

-- two messages that pass their tests, their headers, and the output
module _ (a b out : List ℕ) (g h : Header) (p : Passed a b out g h) where
  fits : Paired g h (length out)
  fits = paired g h (length out) p.clear

  both : first (pair_tests (header_of a) (header_of b) (length out)) ≡ 0
  both = sym (ap₂ (λ (g h : Header). first (pair_tests g h (length out))) p.header_a p.header_b) ∙ p.clear

  -- the header of the answer, and its bytes, copied to the output
  module _ (k : Header) (head out' : List ℕ) (is-k : k ≡ pair_header g h) (is-head : head ≡ header k)
      (copied : out' ≡ take (min (length head) (length out)) head ++ drop (min (length head) (length out)) out) where
    -- the output begins with the header of the answer
    headed : out' ≡ header k ++ drop 16 out
    headed = copied ∙ copied_header _ out is-head (omega (arith, fits.enough))

    -- the output is as long as before
    same-room : length out' ≡ length out
    same-room = headed_length a b p.accepted_a p.accepted_b _ both out _ refl _ (is-k ∙ ap₂ pair_header p.header_a p.header_b) headed

    -- the part of the output that the product is written to
    abbrev lent : List ℕ
    lent = take (16 + 4 * (g.rows * h.columns) - 16) (drop 16 out')

    whole : length lent ≡ 4 * (g.rows * h.columns)
    whole = omega (arith, length-take-le (16 + 4 * (g.rows * h.columns) - 16) (drop 16 out'), length-drop 16 out', same-room, (fits).enough)

    -- the product is not refused
    succeeds : (r : Result (Unit {0}) Refusal)
        → r ≡ answered (host_tests g.modulus g.rows g.columns h.columns (Rest a) (Rest b) (length lent)) (tt {0}) → is_ok r ≡ true
    unfolding payload
    succeeds r is =
        let size = ap₂ (λ (g h : Header). 4 * (g.rows * h.columns)) p.header_a p.header_b in
        let clear =
        ap₂ (λ (g h : Header). first (host_tests g.modulus g.rows g.columns h.columns (Rest a) (Rest b) (length lent))) p.header_a p.header_b
        ∙ ap₂ (λ (xs ys : List ℕ). first (host_tests (header_of a).modulus (header_of a).rows (header_of a).columns (header_of b).columns xs ys (length lent))) (rest_is a 16) (rest_is b 16)
        ∙ product_clear a b p.accepted_a p.accepted_b _ both (length lent) (whole ∙ size) in
        ap is_ok (is ∙ answered_done _ _ clear)

    -- what the call writes
    written : (part : List ℕ) → let n = 16 + 4 * (g.rows * h.columns) - 16 in
        part ≡ host_after g.modulus g.rows g.columns h.columns (Rest a) (Rest b) (take n (drop 16 out'))
        → let made = host_answer a b in
        (take 16 out' ++ (part ++ drop n (drop 16 out')) ≡ made ++ drop (length made) out) × (16 + 4 * (g.rows * h.columns) ≡ length made)
    unfolding payload
    written part is =
        let size = ap₂ (λ (g h : Header). 4 * (g.rows * h.columns)) p.header_a p.header_b in
        let end = ap (λ (n : ℕ). 16 + n) size ∙ sym (length_answer a b p.accepted_a p.accepted_b _ both) in
        let n = 16 + 4 * (g.rows * h.columns) - 16 in
        let back : n ≡ 4 * (g.rows * h.columns) = omega arith in
        let lent = take n (drop 16 out') in
        let whole = length-take-le n (drop 16 out') (omega (arith, length-drop 16 out', same-room, fits.enough)) in
        let part-is = is ∙ ap₂ (λ (g h : Header). host_after g.modulus g.rows g.columns h.columns (Rest a) (Rest b) lent) p.header_a p.header_b in (
          done a b p.accepted_a p.accepted_b _ both out _ refl _ (is-k ∙ ap₂ pair_header p.header_a p.header_b) headed
              part lent (Rest a) (Rest b) n (back ∙ size) whole (rest_is a 16) (rest_is b 16) part-is,
          end,
        )

pub overflow_mul-end : goal.overflow_mul-end
overflow_mul-end c = let p = passed _ _ _ _ _ c.in_ok-g.ensures c.in_ok-h.ensures c.in_ok-check_pair.ensures in omega (arith, (fits _ _ _ _ _ p).count)

pub overflow_mul-end-2 : goal.overflow_mul-end-2
overflow_mul-end-2 c = let p = passed _ _ _ _ _ c.in_ok-g.ensures c.in_ok-h.ensures c.in_ok-check_pair.ensures in omega (arith, (fits _ _ _ _ _ p).count)

pub overflow_add-end : goal.overflow_add-end
overflow_add-end c = let p = passed _ _ _ _ _ c.in_ok-g.ensures c.in_ok-h.ensures c.in_ok-check_pair.ensures in omega (arith, (fits _ _ _ _ _ p).count)

pub slice_bounds-mukerihe_product-count : goal.slice_bounds-mukerihe_product-count
slice_bounds-mukerihe_product-count c = let p = passed _ _ _ _ _ c.in_ok-g.ensures c.in_ok-h.ensures c.in_ok-check_pair.ensures in (readable _ p.accepted_a).head.long

pub slice_bounds-mukerihe_product-start : goal.slice_bounds-mukerihe_product-start
slice_bounds-mukerihe_product-start c = let p = passed _ _ _ _ _ c.in_ok-g.ensures c.in_ok-h.ensures c.in_ok-check_pair.ensures in (readable _ p.accepted_a).head.long

pub slice_bounds-mukerihe_product-count-2 : goal.slice_bounds-mukerihe_product-count-2
slice_bounds-mukerihe_product-count-2 c = let p = passed _ _ _ _ _ c.in_ok-g.ensures c.in_ok-h.ensures c.in_ok-check_pair.ensures in (readable _ p.accepted_b).head.long

pub slice_bounds-mukerihe_product-start-2 : goal.slice_bounds-mukerihe_product-start-2
slice_bounds-mukerihe_product-start-2 c = let p = passed _ _ _ _ _ c.in_ok-g.ensures c.in_ok-h.ensures c.in_ok-check_pair.ensures in (readable _ p.accepted_b).head.long

pub slice_bounds-mukerihe_product-end-3 : goal.slice_bounds-mukerihe_product-end-3
slice_bounds-mukerihe_product-end-3 c =
    let p = passed _ _ _ _ _ c.in_ok-g.ensures c.in_ok-h.ensures c.in_ok-check_pair.ensures in
    omega (arith, same-room _ _ _ _ _ p _ _ _ c.pair_header.ensures c.header_bytes-head.ensures c.copy_bytes.ensures, (fits _ _ _ _ _ p).enough)

pub unwrap-requires : goal.unwrap-requires
unwrap-requires c =
    let p = passed _ _ _ _ _ c.in_ok-g.ensures c.in_ok-h.ensures c.in_ok-check_pair.ensures in
    succeeds _ _ _ _ _ p _ _ _ c.pair_header.ensures c.header_bytes-head.ensures c.copy_bytes.ensures _ c.mukerihe_product.ensures.number

pub returns-clause-outcome : goal.returns-clause-outcome
returns-clause-outcome c =
    let p = passed _ _ _ _ _ c.in_ok-g.ensures c.in_ok-h.ensures c.in_ok-check_pair.ensures in
    let made = written _ _ _ _ _ p _ _ _ c.pair_header.ensures c.header_bytes-head.ensures c.copy_bytes.ensures _ c.mukerihe_product.ensures.block in
    ap Ok made.1 ∙ sym (answered_done _ _ p.all)

pub returns-clause-bytes : goal.returns-clause-bytes
unfolding host_answer_after
returns-clause-bytes c =
    let p = passed _ _ _ _ _ c.in_ok-g.ensures c.in_ok-h.ensures c.in_ok-check_pair.ensures in
    let made = written _ _ _ _ _ p _ _ _ c.pair_header.ensures c.header_bytes-head.ensures c.copy_bytes.ensures _ c.mukerihe_product.ensures.block in
    made.0 ∙ sym (unless_done _ _ _ p.all)
