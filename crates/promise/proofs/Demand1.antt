-- Demand 1 (00): each call is judged by its tests, in order.
--
--   judged     the number of a list of tests
--   called     a call with these tests, by that number
--   tells      an outcome by that number, on paper
--   demand_1   the demand holds
--   other_calls  the calls that it does not name are judged so, too
use mathlib.Core.Path.{◌≡◌, refl, sym, ap, ◌∙◌, subst}
use mathlib.Core.Bool.{Bool, true, false, cond, true≢false}
use mathlib.Core.Logic.{◌↔◌}
use mathlib.Core.List.{List, [], ◌∷◌, ◌++◌}
use Prim.Native.Nat.{ℕ, zero, suc, ◌+◌, ◌*◌, ◌<◌, suc-le-suc}
use native.Mathlib.Nat.{not-suc-le-zero, le_of_suc-le-suc, zero-lt-suc, suc-ne-zero}
use lib.Dec.{T}
use lib.ListN.{length}
use Rattle.std.specs.Prelude.{Result}
use Rattle.refusal.specs.declared.Refusal.{Refusal}
use Rattle.refusal.specs.Numbers.{refusal_of, sheet, own}
use Rattle.refusal.specs.Chain.{Test, first, outcome, answered, unless_refused, Told, done, refused}
use Rattle.refusal.proofs.Chains.{numbered, row_rest, numbered_append, outcome_done, outcome_refused, unless_done, unless_refused_lem, told_number}
use Rattle.refusal.proofs.Answered.{number_told}
use Rattle.plan.specs.declared.Job.{Job}
use Rattle.plan.specs.Planning.{plan_tests}
use Rattle.plan.proofs.Outcomes.{plan_told}
use Rattle.plan.proofs.Then.{plan_numbered}
use Rattle.masks.specs.Drawing.{draw_tests, masks_after}
use Rattle.masks.proofs.Outcomes.{draw_told}
use Rattle.share_side.specs.Sides.{matrix_tests}
use Rattle.share.specs.Sharing.{share_tests, share_after}
use Rattle.product.specs.Product.{product_tests, product_after}
use Rattle.mukerihe.specs.Host.{host_tests, host_after}
use Rattle.mukerihe.specs.Answer.{pair_header, pair_tests, host_answer, host_answer_tests, host_answer_after}
use Rattle.mukerihe.proofs.Answers.{answer_parts, length_answer}
use Rattle.message_header.specs.Header.{header_of, element_count, header_tests, field_tests}
use Rattle.message.specs.Format.{elements, write_tests, message_tests, read_tests, written, read_into}
use Rattle.message.proofs.Outcomes.{read_told}
use Rattle.arrival.specs.declared.Arrived.{Arrived}
use Rattle.arrival.proofs.Outcomes.{arrived_by, arrived_number}
use Rattle.arrival_heard.specs.Heard.{is_heard, with_host}
use Rattle.arrival.specs.Arriving.{answer_length, with_block, host_index, state_tests, answer_tests, minute_tests, again_tests, arrival_tests}
use Rattle.arrival.specs.Arriving.{entered, store_entered, arrived, store_after, number_of, heard_after, already_in}
use Rattle.decode.specs.Decoding.{table_tests, decode_tests, table_after}
use Rattle.page.specs.Page.{page_tests, page_after}
use Rattle.field.proofs.Moduli.{told_named}
use Rattle.field_signed.specs.Signed.{signed_tests, element_tests}
use Rattle.field_signed.proofs.Outcomes.{signed_told_lem, element_told_lem}
use Rattle.promise.specs.Demand1.{test, Judged, Obeys, Tells, Demand1}
use Rattle.promise.specs.OtherCalls.{OtherCalls}

pub judged : (tests : List Test) → T (numbered tests) → Judged tests (first tests)
unfolding first numbered refusal_of sheet
judged [] t = record { carried_out = ((λ e i l. absurd (not-suc-le-zero l)), (λ h. refl)); refused = λ ne. absurd (ne refl) }
judged ((true, zero) ∷ tests) t = absurd t
judged ((true, suc n) ∷ tests) t = record {
  carried_out = ((λ e. absurd (suc-ne-zero n e)), (λ h. absurd (true≢false (h 0 (zero-lt-suc (length tests))))));
  refused = λ ne. (0, zero-lt-suc (length tests), refl, refl, λ j l. absurd (not-suc-le-zero l));
}
judged ((false, n) ∷ tests) t = later (judged tests (row_rest n tests t))
  where
    later : Judged tests (first tests) → Judged ((false, n) ∷ tests) (first tests)
    later j = record {
      carried_out = ((λ e i l. each (j.carried_out.0 e) i l), (λ h. j.carried_out.1 (λ i l. h (suc i) (suc-le-suc l))));
      refused = λ ne. let r = j.refused ne in (suc r.0, suc-le-suc r.1, r.2, r.3, each_before r.0 r.4);
    }
      where
        each : ((i : ℕ) → i < length tests → (test tests i).0 ≡ false) → (i : ℕ) → i < suc (length tests) → (test ((false, n) ∷ tests) i).0 ≡ false
        each h zero l = refl
        each h (suc i) l = h i (le_of_suc-le-suc l)

        each_before : (k : ℕ) → ((j : ℕ) → j < k → (test tests j).0 ≡ false) → (j : ℕ) → j < suc k → (test ((false, n) ∷ tests) j).0 ≡ false
        each_before k h zero l = refl
        each_before k h (suc j) l = h j (le_of_suc-le-suc l)

-- a call with these tests
called : {n : ℕ} (tests : List Test) (made was : List ℕ) → T (numbered tests) → n ≡ first tests → Obeys tests n (unless_refused tests made was) made was
called tests made was ok e = record {
  returned = number_told tests tt ok ∙ sym e;
  judged = subst (Judged tests) (sym e) (judged tests ok);
  carried_out = λ z. unless_done tests made was (sym e ∙ z);
  refused = λ ne. unless_refused_lem tests made was (λ z. ne (e ∙ z));
}

pub tells : {A : Type 0} (tests : List Test) (values : List A) {t : Told A} → T (numbered tests) → t ≡ outcome (first tests) (done values) refused → Tells tests t values
tells tests values {t} ok e =
    let n = first tests in
    let number : t.number ≡ n = ap (λ a. a.number) e ∙ told_number values n in
    record {
      judged = subst (Judged tests) (sym number) (judged tests ok);
      carried_out = λ z. ap (λ a. a.values) (e ∙ outcome_done (done values) refused n (sym number ∙ z));
      refused = λ ne. ap (λ a. a.values) (e ∙ outcome_refused (done values) refused n (λ z. ne (number ∙ z)));
    }

-- what an arrival leaves, by what it returns and by whether its host is heard
module _ (job : Job) (heard : ℕ) (store message : List ℕ) where
  put : List ℕ
  put = with_block (answer_length job) store (host_index (header_of message)) (elements message)

  next : ℕ
  next = with_host heard (host_index (header_of message))

  record Left (r : Result Arrived Refusal) (h : Bool) : Type 0 where
    made : number_of r ≡ 0 → cond h store put ≡ cond (already_in r) store put
    heard_made : number_of r ≡ 0 → heard_after heard r ≡ cond (already_in r) heard next
    heard_kept : (number_of r ≡ 0 → ⊥) → heard_after heard r ≡ heard
    already : (already_in r ≡ true) ↔ ((number_of r ≡ 0) × (h ≡ true))

  left_by : (n : ℕ) (h : Bool) → number_of (arrived_by heard message n h) ≡ n → Left (arrived_by heard message n h) h
  unfolding next outcome
  left_by zero true is = record {
    made = λ z. refl;
    heard_made = λ z. refl;
    heard_kept = λ ne. refl;
    already = ((λ e. (refl, refl)), (λ e. refl));
  }
  left_by zero false is = record {
    made = λ z. refl;
    heard_made = λ z. refl;
    heard_kept = λ ne. absurd (ne refl);
    already = ((λ e. absurd (true≢false (sym e))), (λ e. absurd (true≢false (sym e.1))));
  }
  left_by (suc n) h is = record {
    made = λ z. absurd (suc-ne-zero n (sym is ∙ z));
    heard_made = λ z. absurd (suc-ne-zero n (sym is ∙ z));
    heard_kept = λ ne. refl;
    already = ((λ e. absurd (true≢false (sym e))), (λ e. absurd (suc-ne-zero n (sym is ∙ e.0))));
  }

-- the plan's tests, and then a call's own
after_plan : (job : Job) (points : List ℕ) (tests : List Test) → T (numbered tests) → T (numbered (plan_tests job points ++ tests))
after_plan job points tests = numbered_append (plan_tests job points) tests (plan_numbered job points)

-- how many bytes the answer of a host has
answer_length_lem : (a b : List ℕ) (room : ℕ) → first (host_answer_tests a b room) ≡ 0 → length (host_answer a b) ≡ 16 + 4 * element_count (pair_header (header_of a) (header_of b))
unfolding pair_header element_count
answer_length_lem a b room clear = let parts = answer_parts a b room clear in length_answer a b parts.0 parts.1 room parts.2

pub demand_1 : Demand1
unfolding draw_tests masks_after share_tests matrix_tests share_after product_tests product_after host_tests host_after pair_tests host_answer_tests host_answer_after field_tests write_tests message_tests header_tests read_tests written read_into state_tests answer_tests minute_tests again_tests arrival_tests entered store_entered arrived store_after put next decode_tests table_tests table_after page_tests page_after numbered answered refusal_of sheet own
demand_1 = record {
  plan = λ job points. tells (plan_tests job points) _ (plan_numbered job points) (plan_told job points);
  draw = λ n words out.
      let is = draw_told n words (length out) in
      (tells _ _ tt is, called _ _ _ tt (ap (λ a. a.number) is ∙ told_number _ _));
  share = λ m job points host xs ms out. called _ _ _ (after_plan job points _ tt) refl;
  product = λ n rows inner columns a b out. called _ _ _ tt refl;
  host = λ n rows inner columns a b out. called _ _ _ tt refl;
  answer = λ a b out. (called _ _ _ tt refl, number_told _ _ tt, answer_length_lem a b (length out));
  write = λ h xs out. called _ _ _ tt refl;
  read = λ message out.
      let is = read_told message (length out) in
      (tells _ _ tt is, called _ _ _ tt (ap (λ a. a.number) is ∙ told_number _ _));
  arrival = λ job points heard store message minute.
      let tests = arrival_tests job points heard store message minute in
      let index = host_index (header_of message) in
      let is = arrived_number job points heard store message minute in
      let l = left_by job heard store message (first tests) (is_heard heard index) is in
      let c = called tests (store_entered (answer_length job) heard store message) store (after_plan job points _ tt) is in (
        record { returned = c.returned; judged = c.judged; carried_out = λ z. c.carried_out z ∙ l.made z; refused = c.refused },
        l.heard_made,
        l.heard_kept,
        l.already,
      );
  decode = λ job points heard store table. called _ _ _ (after_plan job points _ tt) refl;
  page = λ n t r table out. called _ _ _ tt refl;
}

pub other_calls : OtherCalls
unfolding signed_tests element_tests numbered refusal_of sheet
other_calls = record {
  signed_reading = λ n v. tells _ _ tt (signed_told_lem n v);
  way_back = λ n z. tells _ _ tt (element_told_lem n z);
  naming = λ n.
      let is = told_named n in
      (tells _ _ tt is, number_told _ _ tt ∙ sym (ap (λ a. a.number) is ∙ told_number _ _));
}
