-- Demand 3 from "Yet" on: every list of arrivals and decodings.
--
--   true_fit       a true product's bytes are a fit message of its host inside the window
--   heard_below_lem    blocks of elements below q pass the test of decoding
--   decode_number  a decoding in a good state is refused where too few are heard, and by no other number
--   yet            the claim about a whole list
use mathlib.Core.Path.{◌≡◌, refl, sym, ap, ap₂, ◌∙◌, subst}
use mathlib.Core.Bool.{Bool, true, false, cond, not, ◌&&◌, ◌||◌, and-true}
use mathlib.Core.Logic.{◌↔◌, ⊎_elim}
use mathlib.Core.List.{List, [], ◌∷◌, ◌++◌}
use Prim.Native.Nat.{ℕ, zero, suc, ◌-◌, ◌^◌, ◌<◌, ◌≤◌}
use native.Mathlib.Nat.{lt-suc_self}
use native.Mathlib.Omega.{arith}
use lib.Count.{ones}
use lib.Dec.{ltb}
use lib.ListN.{length, get_or}
use lib.Pow.{pow_pos}
use borrow.Author.Tests.{eq-eqb, ltb-false, le-ltb, lt-leb}
use Rattle.algebra.specs.Lists.{AllBelow, all_below}
use Rattle.algebra.specs.Sets.{size}
use Rattle.algebra.proofs.Sets.{members_cong}
use Rattle.algebra.proofs.Lists.{below_test}
use Rattle.algebra.proofs.Tests.{by_test, alike}
use Rattle.refusal.specs.Chain.{Test, first}
use Rattle.refusal.proofs.Chains.{first_none, first_miss, first_clear, first_append, unless_done}
use Rattle.plan.specs.Planning.{prime, block_rows, block_columns, needed_of, in_window}
use Rattle.plan.proofs.Then.{then_own}
use Rattle.message_header.specs.declared.Header.{Header}
use Rattle.message_header.specs.Header.{header_of}
use Rattle.message.specs.Format.{message_of, elements, message_tests}
use Rattle.message.specs.RoundTrips.{ReadsBack}
use Rattle.message.proofs.RoundTrips.{reads_back}
use Rattle.message.proofs.Tests.{message_numbered}
use Rattle.arrival_heard.specs.Heard.{is_heard, some_above}
use Rattle.arrival_heard.proofs.Bits.{none_heard, ones_size}
use Rattle.arrival.specs.Arriving.{answer_length, store_length, block_at, host_index, foreign, answer_tests}
use Rattle.product.specs.Product.{product_of}
use Rattle.decode.specs.Decoding.{table_length, heard_below, table_tests, decode_tests, table_after}
use Rattle.promise.specs.Demand3.{Task, Accepted, Call, arrival, decoding, State, Reply, unanswered, reply, run, replies, matrix, fit, fit_for, has_fit, first_fit, begin, answer_header, header_for, share_for, true_product, Trace}
use Rattle.promise.proofs.Fits.{core, fit_core}
use Rattle.promise.proofs.Made.{answer, answer_written}
use Rattle.promise.proofs.Steps.{Good}
use Rattle.promise.proofs.Trace.{Ran, ran, heard_is, replies_at}
use Rattle.promise.proofs.Exact.{exact, answer_block}

module _ (x : Task) (ok : Accepted x) (ma mb : List ℕ) (i : ℕ) (low : i < x.job.hosts) where
  message : List ℕ
  message = true_product x (suc i) ma mb

  is_message : message ≡ message_of (answer_header x (suc i)) (answer x ok i low ma mb)
  unfolding message true_product answer
  is_message = refl

  read : ReadsBack (answer_header x (suc i)) (answer x ok i low ma mb)
  unfolding answer_header header_for
  read = reads_back (answer_header x (suc i)) (answer x ok i low ma mb) _ ok.number (answer_written x ok i low ma mb _ refl)

  header_is : header_of message ≡ answer_header x (suc i)
  header_is = ap header_of is_message ∙ read.same_header

  pub elements_true : elements (true_product x (suc i) ma mb) ≡ answer x ok i low ma mb
  unfolding message
  elements_true = ap elements is_message ∙ read.same_elements

  core_clear : first (core x.job message) ≡ 0
  unfolding core answer_tests foreign answer_header header_for
  core_clear =
      let job = x.job in
      first_append (message_tests message) (answer_tests job (header_of message)) (message_numbered message) (ap (λ (m : List ℕ). first (message_tests m)) is_message ∙ read.accepted)
      ∙ first_miss _ 22 _
      (ap (foreign job) header_is
      ∙ ap₂ ◌||◌ (ap₂ ◌||◌ (ap₂ ◌||◌ (ap₂ ◌||◌ (alike 3 3 refl) (alike job.number job.number refl)) (alike job.modulus job.modulus refl))
      (alike (block_rows job) (block_rows job) refl))
      (alike (block_columns job) (block_columns job) refl))
      ∙ first_miss _ 12 _ (ap (λ (h : Header). ltb job.hosts h.host) header_is ∙ le-ltb job.hosts (suc i) (omega arith))
      ∙ first_none

  pub true_fit : (s : State) → length s.store ≡ store_length x.job → (minute : ℕ)
      → fit_for x s i (arrival (true_product x (suc i) ma mb) minute) ≡ in_window x.job minute
  unfolding fit_for fit host_index message answer_header header_for
  true_fit s room minute =
      ap₂ ◌&&◌
      (fit_core x.job x.points s.heard s.store message minute ok.planned room
      ∙ ap (λ (t : Bool). in_window x.job minute && t) (eq-eqb (first (core x.job message)) 0 core_clear))
      (eq-eqb ((header_of message).host - 1) i (ap (λ (h : Header). h.host - 1) header_is ∙ (let e : suc i - 1 ≡ i = omega arith in e)))
      ∙ and-true (in_window x.job minute && true)
      ∙ and-true (in_window x.job minute)

pub heard_below_lem : (q size heard : ℕ) (store : List ℕ) (n : ℕ)
    → ((i : ℕ) → i < n → is_heard heard i ≡ true → AllBelow q (block_at size store i)) → heard_below q size heard store n ≡ true
unfolding heard_below
heard_below_lem q size heard store zero h = refl
heard_below_lem q size heard store (suc n) h =
    ap₂ ◌&&◌ (heard_below_lem q size heard store n (λ i l e. h i (omega arith) e))
    (⊎_elim
    (λ (e : is_heard heard n ≡ true). ap₂ (λ (a b : Bool). not a || b) e (below_test q (block_at size store n) (h n (lt-suc_self n) e)))
    (λ (e : is_heard heard n ≡ false). ap (λ (a : Bool). not a || all_below q (block_at size store n)) e)
    (by_test (is_heard heard n)))

-- a last test that does not hold
first_last : (row : Test) (test : Bool) (n : ℕ) → test ≡ false → first (row ∷ (test, n) ∷ []) ≡ first (row ∷ [])
unfolding first
first_last row test n e = ap (λ (t : Bool). cond row.0 row.1 (cond t n 0)) e

module _ (x : Task) (ok : Accepted x) (s : State) (good : Good x s)
    (below : (i : ℕ) → is_heard s.heard i ≡ true → AllBelow (prime x.job) (block_at (answer_length x.job) s.store i))
    (table : List ℕ) (exact : length table ≡ table_length x.job) where
  pub decode_number : first (decode_tests x.job x.points s.heard s.store (length table)) ≡ first ((ltb (ones s.heard) (needed_of x.job), 24) ∷ [])
  unfolding decode_tests table_tests some_above
  decode_number =
      let job = x.job in
      then_own job x.points _ ok.planned
      ∙ first_miss _ 21 _ (lt-leb (2 ^ job.hosts) s.heard good.none_above)
      ∙ first_miss _ 13 _ (ap₂ ◌||◌ (alike (length s.store) (store_length job) good.room) (alike (length table) (table_length job) exact))
      ∙ first_last _ _ 14 (ap not (heard_below_lem (prime job) (answer_length job) s.heard s.store job.hosts (λ i l. below i)))

  pub carried_out : (first (decode_tests x.job x.points s.heard s.store (length table)) ≡ 0)
      ↔ (needed_of x.job ≤ size (is_heard s.heard) x.job.hosts)
  carried_out =
      let count = ones_size s.heard x.job.hosts good.none_above in
      let few = ltb (ones s.heard) (needed_of x.job) in (
        (λ e. omega (arith, count, ltb-false (ones s.heard) (needed_of x.job) (first_clear few 23 [] (sym decode_number ∙ e)).0)),
        (λ l. decode_number ∙ first_miss few 24 [] (le-ltb (ones s.heard) (needed_of x.job) (omega (arith, count))) ∙ first_none),
      )

module _ (x : Task) (ok : Accepted x) (ma mb store : List ℕ) (room : length store ≡ store_length x.job) where
  start : Good x (begin store)
  unfolding begin
  start = record { planned = ok.planned; none_above = pow_pos x.job.hosts; room = room }

  ran_from : (calls : List Call) → Ran x (begin store) calls
  ran_from calls = ran x calls (begin store) start

  -- the block of a host heard is its first fit message's
  block_is : (calls : List Call) (i : ℕ) → is_heard (run x (begin store) calls).heard i ≡ true
      → block_at (answer_length x.job) (run x (begin store) calls).store i ≡ elements (first_fit x (begin store) calls i)
  unfolding begin
  block_is calls i e = (ran_from calls).new i (none_heard i) (sym (heard_is x store start calls i) ∙ e)

  block_below : (calls : List Call) (i : ℕ) → is_heard (run x (begin store) calls).heard i ≡ true
      → AllBelow (prime x.job) (block_at (answer_length x.job) (run x (begin store) calls).store i)
  block_below calls i e =
      subst (λ (xs : List ℕ). AllBelow (prime x.job) xs) (sym (block_is calls i e)) ((ran_from calls).below i (sym (heard_is x store start calls i) ∙ e))

  -- as many are heard as have a fit message
  count_is : (calls : List Call) → size (is_heard (run x (begin store) calls).heard) x.job.hosts ≡ size (has_fit x (begin store) calls) x.job.hosts
  unfolding size
  count_is calls = ap length (members_cong _ _ x.job.hosts (λ i l. heard_is x store start calls i))

  module _ (before rest : List Call) (table : List ℕ) (exact-length : length table ≡ table_length x.job) where
    state : State
    state = run x (begin store) before

    decides : (first (decode_tests x.job x.points state.heard state.store (length table)) ≡ 0)
        ↔ (needed_of x.job ≤ size (is_heard state.heard) x.job.hosts)
    unfolding state
    decides = carried_out x ok state (ran_from before).good (block_below before) table exact-length

    reply_is : (calls : List Call) → calls ≡ before ++ (decoding table ∷ rest)
        → get_or (replies x (begin store) calls) (length before) unanswered ≡ reply x state (decoding table)
    unfolding state
    reply_is calls e =
        ap (λ (cs : List Call). get_or (replies x (begin store) cs) (length before) unanswered) e ∙ replies_at x before rest (decoding table) (begin store)

    decides_fit : (calls : List Call) → calls ≡ before ++ (decoding table ∷ rest)
        → ((get_or (replies x (begin store) calls) (length before) unanswered).number ≡ 0)
        ↔ (needed_of x.job ≤ size (has_fit x (begin store) before) x.job.hosts)
    unfolding state reply
    decides_fit calls e =
        let told : (get_or (replies x (begin store) calls) (length before) unanswered).number ≡ first (decode_tests x.job x.points state.heard state.store (length table))
        = ap (λ (r : Reply). r.number) (reply_is calls e) in (
          (λ z. subst (λ (n : ℕ). needed_of x.job ≤ n) (count_is before) (decides.0 (sym told ∙ z))),
          (λ l. told ∙ decides.1 (subst (λ (n : ℕ). needed_of x.job ≤ n) (sym (count_is before)) l)),
        )

    table_is : (calls : List Call) → calls ≡ before ++ (decoding table ∷ rest)
        → needed_of x.job ≤ size (has_fit x (begin store) before) x.job.hosts
        → ((i : ℕ) → i < x.job.hosts → has_fit x (begin store) before i ≡ true → first_fit x (begin store) before i ≡ true_product x (suc i) ma mb)
        → (get_or (replies x (begin store) calls) (length before) unanswered).table
        ≡ product_of (prime x.job) x.job.t x.job.s x.job.r x.a x.b
    unfolding state reply table_after answer_block answer share_for matrix
    table_is calls e enough true-first =
        let many = subst (λ (n : ℕ). needed_of x.job ≤ n) (sym (count_is before)) enough in
        ap (λ (r : Reply). r.table) (reply_is calls e)
        ∙ unless_done _ _ table (decides.1 many)
        ∙ exact x ok ma mb state.heard state.store many (λ h l is-heard.
        block_is before h is-heard ∙ ap elements (true-first h l (sym (heard_is x store start before h) ∙ is-heard)) ∙ elements_true x ok ma mb h l)

  pub yet : (calls : List Call) → Trace x ma mb store calls
  yet calls = record {
    heard = heard_is x store start calls;
    none_above = (ran_from calls).good.none_above;
    carried_out = λ before rest table e exact-length. decides_fit before rest table exact-length calls e;
    exact = λ before rest table e exact-length. table_is before rest table exact-length calls e;
  }
