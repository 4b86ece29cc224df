-- What an arrival returns and leaves, by its tests.
--
--   arrived_by         what an arrival returns, by its number and by whether its host is heard
--   arrived_number     it stands for the number that its tests tell
--   message_refused    the message is refused
--   answer_refused     it is not, and 22 or 12 fits its fields
--   minute_refused     neither does, and its minute is outside the window
--   taken              it is inside, and the host is not heard: the message is taken
--   again              the host is heard: it is in already or gets 23
--   kept, kept_again   where the message is refused, or its host is heard, the store stays
--   put                where it is taken, the host's block is written
--   plan_refused, state_refused  an arrival is refused by the plan, or by a test of the hosts heard and the store
--   kept_arrived       the store then stays
--   passed             both have passed: the message decides
--   exact              the store has the length of the job's
--   Own, own           what the tests of a message tell, once they have passed
use mathlib.Core.Path.{◌≡◌, refl, sym, ap, ap₂, ◌∙◌}
use mathlib.Core.Bool.{Bool, true, false, cond, not, ◌||◌}
use mathlib.Core.List.{List, [], ◌∷◌, ◌++◌}
use Prim.Native.Nat.{ℕ, zero, suc, ◌+◌, ◌-◌, ◌*◌, ◌<◌, ◌≤◌}
use native.Mathlib.Omega.{arith}
use lib.Dec.{T}
use lib.ListN.{length}
use borrow.Author.Tests.{ltb-false}
use Rattle.std.specs.Prelude.{Result, Ok, Err}
use Rattle.algebra.proofs.Tests.{or_left, or_right, equal}
use Rattle.refusal.specs.declared.Refusal.{Refusal}
use Rattle.refusal.specs.Numbers.{refusal_of, sheet}
use Rattle.refusal.specs.Chain.{Test, first, outcome, answered, refuse, unless_refused, differs}
use Rattle.refusal.proofs.Chains.{first_clear, first_append, numbered, numbered_append, unless_done, unless_refused_lem}
use Rattle.refusal.proofs.Answered.{answered_hit, answered_miss, answered_none, is_done, is_refused, refused_on, passed_on, number_told}
use Rattle.plan.specs.declared.Job.{Job}
use Rattle.plan.specs.declared.Plan.{Plan}
use Rattle.plan.specs.Planning.{block_rows, block_columns, in_window, plan_tests, planned}
use Rattle.plan.proofs.Then.{plan_numbered, then_own}
use Rattle.message_header.specs.declared.Header.{Header}
use Rattle.message_header.specs.Header.{header_of, element_count, field_tests, header_tests}
use Rattle.message_header.proofs.Fields.{ranged}
use Rattle.message.specs.Format.{elements, message_tests, examined}
use Rattle.message.proofs.Tests.{message_numbered}
use Rattle.message.proofs.Fields.{readable}
use Rattle.arrival_heard.specs.Heard.{is_heard, with_host}
use Rattle.arrival.specs.declared.Arrived.{Arrived}
use Rattle.arrival.specs.declared.Arrived.TheVariants.{Taken, AlreadyIn}
use Rattle.arrival.specs.Arriving.{answer_length, store_length, with_block, host_index, foreign, repeated, state_tests, answer_tests, minute_tests, again_tests}
use Rattle.arrival.specs.Arriving.{arrival_tests, entered, store_entered, arrived, store_after, number_of}
use Rattle.arrival.specs.Internal.{received_tests, received, store_received}

abbrev pub arrived_by : ℕ → List ℕ → ℕ → Bool → Result Arrived Refusal
arrived_by heard message n h = outcome n (Ok (cond h AlreadyIn (Taken (with_host heard (host_index (header_of message)))))) refuse

-- ---- a message

module _ (job : Job) (heard : ℕ) (store message : List ℕ) (minute : ℕ) where
  received_numbered : T (numbered (received_tests job heard store message minute))
  unfolding received_tests message_tests header_tests field_tests answer_tests minute_tests again_tests numbered refusal_of sheet
  received_numbered = tt

  pub message_refused : (r : Refusal) → Err r ≡ examined message → Err r ≡ received job heard store message minute
  unfolding received received_tests examined
  message_refused r e = refused_on (message_tests message) _ _ _ r e

  pub kept : (r : Refusal) → Err r ≡ received job heard store message minute → store ≡ store_received job heard store message minute
  unfolding received store_received
  kept r e = sym (unless_refused_lem _ _ store (is_refused _ _ r e).0)

  module _ (h : Header) (read : Ok h ≡ examined message) where
    past_message : received job heard store message minute
        ≡ answered (answer_tests job h ++ (minute_tests job minute ++ again_tests (answer_length job) heard store message)) (entered heard message)
    unfolding received received_tests examined
    past_message =
        let later : Header → List Test = λ k. answer_tests job k ++ (minute_tests job minute ++ again_tests (answer_length job) heard store message) in
        passed_on (message_tests message) (later (header_of message)) _ _ h (message_numbered message) read
        ∙ ap (λ (k : Header). answered (later k) (entered heard message)) (sym (is_done _ _ h read).1)

    pub answer_refused : (r : Refusal) → Err r ≡ answered (answer_tests job h) (tt {0}) → Err r ≡ received job heard store message minute
    answer_refused r e = refused_on (answer_tests job h) _ _ _ r e ∙ sym past_message

    module _ (answer : Ok tt ≡ answered (answer_tests job h) (tt {0})) where
      past_answer : received job heard store message minute
          ≡ answered (minute_tests job minute ++ again_tests (answer_length job) heard store message) (entered heard message)
      unfolding answer_tests numbered refusal_of sheet
      past_answer = past_message ∙ passed_on (answer_tests job h) _ _ _ tt tt answer

      pub minute_refused : in_window job minute ≡ false → Err Refusal.OutsideWindow ≡ received job heard store message minute
      unfolding minute_tests refusal_of sheet
      minute_refused e = sym (past_answer ∙ answered_hit _ 29 _ _ (ap not e))

      module _ (inside : in_window job minute ≡ true) where
        past_minute : received job heard store message minute ≡ answered (again_tests (answer_length job) heard store message) (entered heard message)
        unfolding minute_tests
        past_minute = past_answer ∙ answered_miss _ 30 _ _ (ap not inside)

        pub taken : is_heard heard (host_index (header_of message)) ≡ false
            → Ok (Taken (with_host heard (host_index (header_of message)))) ≡ received job heard store message minute
        unfolding again_tests entered
        taken new = sym (past_minute ∙ rw (new, answered_miss, answered_none))

        pub again : is_heard heard (host_index (header_of message)) ≡ true
            → received job heard store message minute ≡ answered ((not (repeated (answer_length job) store message), 23) ∷ []) AlreadyIn
        unfolding again_tests entered
        again old = past_minute ∙ rw old

  pub put : (x : Arrived) → Ok x ≡ received job heard store message minute → is_heard heard (host_index (header_of message)) ≡ false
      → with_block (answer_length job) store (host_index (header_of message)) (elements message) ≡ store_received job heard store message minute
  unfolding received store_received store_entered
  put x e new = sym (unless_done _ _ store (is_done _ _ x e).0 ∙ rw new)

  pub kept_again : is_heard heard (host_index (header_of message)) ≡ true → store ≡ store_received job heard store message minute
  unfolding store_received store_entered unless_refused outcome
  kept_again old = rw old (go (first (received_tests job heard store message minute)))
    where
      go : (n : ℕ) → store ≡ outcome n store (λ k. store)
      go zero = refl
      go (suc n) = refl

-- ---- an arrival

module _ (job : Job) (points : List ℕ) (heard : ℕ) (store message : List ℕ) (minute : ℕ) where
  pub arrived_number : number_of (arrived job points heard store message minute) ≡ first (arrival_tests job points heard store message minute)
  unfolding arrived arrival_tests state_tests received_tests numbered refusal_of sheet
  arrived_number =
      number_told (arrival_tests job points heard store message minute) (entered heard message)
      (numbered_append (plan_tests job points) _ (plan_numbered job points) (received_numbered job heard store message minute))

  pub plan_refused : (r : Refusal) → Err r ≡ planned job points → Err r ≡ arrived job points heard store message minute
  unfolding arrived arrival_tests planned
  plan_refused r e = refused_on (plan_tests job points) _ _ _ r e

  pub kept_arrived : (r : Refusal) → Err r ≡ arrived job points heard store message minute → store ≡ store_after job points heard store message minute
  unfolding arrived store_after
  kept_arrived r e = sym (unless_refused_lem _ _ store (is_refused _ _ r e).0)

  module _ (plan : Plan) (accepted : Ok plan ≡ planned job points) where
    past_plan : first (arrival_tests job points heard store message minute) ≡ first (state_tests job heard (length store) ++ received_tests job heard store message minute)
    unfolding arrival_tests received_tests planned
    past_plan = then_own job points _ (is_done _ _ plan accepted).0

    pub state_refused : (r : Refusal) → Err r ≡ answered (state_tests job heard (length store)) (tt {0}) → Err r ≡ arrived job points heard store message minute
    unfolding arrived answered
    state_refused r e = rw past_plan (refused_on (state_tests job heard (length store)) (received_tests job heard store message minute) tt (entered heard message) r e)

    pub passed : Ok tt ≡ answered (state_tests job heard (length store)) (tt {0})
        → (received job heard store message minute ≡ arrived job points heard store message minute)
        × (store_received job heard store message minute ≡ store_after job points heard store message minute)
    unfolding state_tests numbered refusal_of sheet received store_received arrived store_after answered unless_refused
    passed state =
        let same = past_plan ∙ first_append (state_tests job heard (length store)) (received_tests job heard store message minute) tt (is_done _ _ _ state).0 in
        (rw same, rw same)

-- ---- what the tests tell

pub exact : (job : Job) (heard room : ℕ) → Ok tt ≡ answered (state_tests job heard room) (tt {0}) → room ≡ store_length job
unfolding state_tests
exact job heard room e = equal _ _ (first_clear _ 12 _ (first_clear _ 20 _ (is_done _ _ _ e).0).1).0

-- the fields of a message that is not foreign
sizes : (job : Job) (h : Header) → foreign job h ≡ false → (h.rows ≡ block_rows job) × (h.columns ≡ block_columns job)
unfolding foreign
sizes job h e =
    let rows = differs h.rows (block_rows job) in
    let columns = differs h.columns (block_columns job) in
    let rest = differs h.kind 3 || differs h.number job.number || differs h.modulus job.modulus in
    (equal _ _ (or_right rest rows (or_left (rest || rows) columns e)), equal _ _ (or_right (rest || rows) columns e))

module _ (job : Job) (message : List ℕ) (h : Header) where
  pub record Own : Type 0 where
    pub count : element_count (header_of message) ≡ answer_length job
    pub whole : length message ≡ 16 + 4 * answer_length job
    pub index : h.host - 1 ≡ host_index (header_of message)
    pub low : 1 ≤ h.host
    pub below : h.host - 1 < job.hosts

  pub own : Ok h ≡ examined message → Ok tt ≡ answered (answer_tests job h) (tt {0}) → Own
  unfolding examined answer_tests element_count answer_length host_index
  own read answer =
      let told = is_done _ _ _ read in
      let r = readable message told.0 in
      let ours = first_clear _ 21 _ (is_done _ _ _ answer).0 in
      let host = first_clear _ 11 _ ours.1 in
      let size = sizes job h ours.0 in
      let count = ap element_count (sym told.1) ∙ ap₂ ◌*◌ size.0 size.1 in
      let low : 1 ≤ h.host = omega (arith, ap (λ (k : Header). k.host) told.1, (ranged _ r.head.fields).host.low) in
      record {
        count = count;
        whole = omega (arith, r.whole, count);
        index = ap host_index told.1;
        low = low;
        below = omega (arith, ltb-false job.hosts h.host host.0);
      }
