-- Fit arrivals (01, "Arrivals"; 02, U7): what is left of an arrival's tests.
--
--   core               the tests of a message, and 22 and 12: those that neither the plan nor the state nor the minute play a part in
--   core_numbered      each of them has a number
--   FitArrival, fit_arrival  what a fit arrival has passed: the plan's tests, 13, these and 30
--   fit_alike          of the state, the length of the store alone plays a part
--   fit_core           past the plan's tests and 13, an arrival is fit where none of these holds and it is inside the window
--   arrival_core       past 21 too, an arrival is judged by these, by 30, and by 23
--   FitMessage         what a fit message has: its header is that of its host's answer, its host's index is below N, and its
--                      elements fill a block and are below q
--   fit_message        a message that passed these has it
use mathlib.Core.Path.{◌≡◌, refl, sym, ap, ap₂, ◌∙◌, subst}
use mathlib.Core.Bool.{true, not, ◌&&◌, ◌||◌, and-eq-true_iff}
use mathlib.Core.List.{List, ◌∷◌, ◌++◌, append_assoc}
use Prim.Native.Nat.{ℕ, suc, ◌-◌, ◌*◌, ◌^◌, ◌<◌}
use native.Mathlib.Omega.{arith}
use lib.Dec.{T, eqb}
use lib.ListN.{length}
use borrow.Author.Tests.{eqb-true, eq-eqb, ltb-false, lt-leb, not-false}
use Rattle.algebra.specs.Lists.{AllBelow}
use Rattle.algebra.proofs.Lists.{all_below_test}
use Rattle.algebra.proofs.Tests.{tests_alike, or_left, or_right, equal, alike}
use Rattle.refusal.specs.Numbers.{refusal_of, sheet}
use Rattle.refusal.specs.Chain.{Test, first, except, differs}
use Rattle.refusal.proofs.Chains.{numbered, numbered_append, first_none, first_miss, first_append, first_append_clear, first_clear}
use Rattle.refusal.proofs.Except.{except_append}
use Rattle.field.specs.Modulus.{modulus as modulus_modulus}
use Rattle.plan.specs.declared.Job.{Job}
use Rattle.plan.specs.Planning.{prime, block_rows, block_columns, in_window, plan_tests}
use Rattle.plan.proofs.Then.{plan_numbered, plan_except}
use Rattle.message_bytes.proofs.Words.{length_elements}
use Rattle.message_header.specs.Header.{header_tests, header_of, element_count, field_tests}
use Rattle.message_header.proofs.Fields.{ranged}
use Rattle.message.specs.Format.{elements, element_test, message_tests}
use Rattle.message.proofs.Fields.{readable}
use Rattle.message.proofs.Tests.{message_numbered}
use Rattle.arrival_heard.specs.Heard.{some_above}
use Rattle.arrival.specs.Arriving.{answer_length, store_length, host_index, foreign, state_tests, answer_tests, minute_tests, again_tests, arrival_tests}
use Rattle.promise.specs.Demand3.{header_for}
use Rattle.promise.specs.Retried.{index}

unfoldable pub core : Job → List ℕ → List Test
core job message = message_tests message ++ answer_tests job (header_of message)

pub core_numbered : (job : Job) (message : List ℕ) → T (numbered (core job message))
unfolding core answer_tests numbered refusal_of sheet
core_numbered job message = numbered_append (message_tests message) (answer_tests job (header_of message)) (message_numbered message) tt

-- the tests that are left after the plan's without 21 and 23; the store has room for that many elements
left : Job → ℕ → List ℕ → ℕ → List Test
left job room message minute = (differs room (store_length job), 13) ∷ (core job message ++ minute_tests job minute)

-- the tests of a message, 22, 12 and 30: none of them holds
left_clear : (job : Job) (message : List ℕ) (minute : ℕ) → eqb (first (core job message ++ minute_tests job minute)) 0 ≡ (in_window job minute && eqb (first (core job message)) 0)
unfolding minute_tests
left_clear job message minute =
    tests_alike _ _ (λ e.
    let parts = first_append_clear (core job message) (minute_tests job minute) (core_numbered job message) (eqb-true _ 0 e) in
    ap₂ ◌&&◌ (not-false (in_window job minute) (first_clear _ 29 _ parts.1).0) (eq-eqb _ 0 parts.0)) (λ e.
    let both = (and-eq-true_iff (in_window job minute) (eqb (first (core job message)) 0)).0 e in
    eq-eqb _ 0
    (first_append (core job message) (minute_tests job minute) (core_numbered job message) (eqb-true _ 0 both.1)
    ∙ first_miss _ 30 _ (ap not both.0)
    ∙ first_none))

module _ (job : Job) (points : List ℕ) (heard : ℕ) (store message : List ℕ) (minute : ℕ) where
  -- the tests after the plan's
  own : List Test
  own =
      state_tests job heard (length store)
      ++ (message_tests message ++ (answer_tests job (header_of message)
      ++ (minute_tests job minute ++ again_tests (answer_length job) heard store message)))

  own_left : except 21 (except 23 own) ≡ left job (length store) message minute
  unfolding own left core state_tests answer_tests minute_tests again_tests message_tests header_tests field_tests except
  own_left = refl

  fit_tests : except 21 (except 23 (arrival_tests job points heard store message minute)) ≡ plan_tests job points ++ left job (length store) message minute
  unfolding arrival_tests own
  fit_tests =
      let plan = plan_tests job points in
      let kept = plan_except job points in
      ap (except 21) (except_append 23 plan own ∙ ap (λ (l : List Test). l ++ except 23 own) kept.1)
      ∙ except_append 21 plan (except 23 own)
      ∙ ap₂ (λ (l r : List Test). l ++ r) kept.0 own_left

  pub record FitArrival : Type 0 where
    pub planned : first (plan_tests job points) ≡ 0
    pub room : length store ≡ store_length job
    pub clear : first (core job message) ≡ 0
    pub inside : in_window job minute ≡ true

  pub fit_arrival : eqb (first (except 21 (except 23 (arrival_tests job points heard store message minute)))) 0 ≡ true → FitArrival
  unfolding left
  fit_arrival e =
      let rows = left job (length store) message minute in
      let parts = first_append_clear (plan_tests job points) rows (plan_numbered job points) (ap first (sym fit_tests) ∙ eqb-true _ 0 e) in
      let rest = first_clear _ 12 _ parts.1 in
      let both = (and-eq-true_iff (in_window job minute) (eqb (first (core job message)) 0)).0 (sym (left_clear job message minute) ∙ eq-eqb _ 0 rest.1) in
      record { planned = parts.0; room = equal _ _ rest.0; clear = eqb-true _ 0 both.1; inside = both.0 }

  module _ (planned : first (plan_tests job points) ≡ 0) (room : length store ≡ store_length job) where
    pub fit_core : eqb (first (except 21 (except 23 (arrival_tests job points heard store message minute)))) 0
        ≡ (in_window job minute && eqb (first (core job message)) 0)
    unfolding left
    fit_core =
        ap (λ (n : ℕ). eqb n 0)
        (ap first fit_tests
        ∙ first_append (plan_tests job points) (left job (length store) message minute) (plan_numbered job points) planned
        ∙ first_miss _ 13 _ (alike (length store) (store_length job) room))
        ∙ left_clear job message minute

    pub arrival_core : heard < 2 ^ job.hosts
        → first (arrival_tests job points heard store message minute)
        ≡ first (core job message ++ (minute_tests job minute ++ again_tests (answer_length job) heard store message))
    unfolding arrival_tests state_tests core some_above
    arrival_core below =
        first_append (plan_tests job points) _ (plan_numbered job points) planned
        ∙ first_miss _ 21 _ (lt-leb (2 ^ job.hosts) heard below)
        ∙ first_miss _ 13 _ (alike (length store) (store_length job) room)
        ∙ ap first (sym (append_assoc (message_tests message) (answer_tests job (header_of message)) (minute_tests job minute ++ again_tests (answer_length job) heard store message)))

pub fit_alike : (job : Job) (points : List ℕ) (heard heard' : ℕ) (store store' message : List ℕ) (minute : ℕ) → length store ≡ length store'
    → first (except 21 (except 23 (arrival_tests job points heard store message minute))) ≡ first (except 21 (except 23 (arrival_tests job points heard' store' message minute)))
fit_alike job points heard heard' store store' message minute same =
    ap first (fit_tests job points heard store message minute)
    ∙ ap (λ (n : ℕ). first (plan_tests job points ++ left job n message minute)) same
    ∙ ap first (sym (fit_tests job points heard' store' message minute))

pub record FitMessage (job : Job) (message : List ℕ) : Type 0 where
  pub read : first (message_tests message) ≡ 0
  pub header : header_of message ≡ header_for 3 job (suc (index message)) (block_rows job) (block_columns job)
  pub index : index message < job.hosts
  pub fills : length (elements message) ≡ answer_length job
  pub below : AllBelow (prime job) (elements message)

pub fit_message : (job : Job) (message : List ℕ) → first (core job message) ≡ 0 → FitMessage job message
unfolding core answer_tests foreign host_index header_for answer_length elements element_count element_test prime
fit_message job message e =
    let h = header_of message in
    let parts = first_append_clear (message_tests message) (answer_tests job h) (message_numbered message) e in
    let read = readable message parts.0 in
    let ours = first_clear _ 21 _ parts.1 in
    let host = ltb-false job.hosts h.host (first_clear _ 11 _ ours.1).0 in
    let low = (ranged h read.head.fields).host.low in
    let kind = differs h.kind 3 in
    let number = differs h.number job.number in
    let modulus = differs h.modulus job.modulus in
    let rows = differs h.rows (block_rows job) in
    let columns = differs h.columns (block_columns job) in
    let four = or_left (kind || number || modulus || rows) columns ours.0 in
    let three = or_left (kind || number || modulus) rows four in
    let two = or_left (kind || number) modulus three in
    let same_kind = equal h.kind 3 (or_left kind number two) in
    let same_number = equal h.number job.number (or_right kind number two) in
    let same-modulus = equal h.modulus job.modulus (or_right (kind || number) modulus three) in
    let same_rows = equal h.rows (block_rows job) (or_right (kind || number || modulus) rows four) in
    let same-columns = equal h.columns (block_columns job) (or_right (kind || number || modulus || rows) columns ours.0) in
    let same_host : h.host ≡ suc (h.host - 1) = omega (arith, low) in
    record {
      read = parts.0;
      header = λ i. record {
        kind = same_kind i;
        modulus = same-modulus i;
        host = same_host i;
        rows = same_rows i;
        columns = same-columns i;
        number = same_number i;
      };
      index = omega (arith, host, low);
      fills = length_elements _ _ ∙ ap₂ ◌*◌ same_rows same-columns;
      below = subst (λ (n : ℕ). AllBelow (modulus_modulus n) (elements message)) same-modulus (all_below_test _ _ (not-false _ read.below));
    }
