-- One call of a list of arrivals and decodings (00, demand 3, from "Yet" on).
--
--   Good           a state in which no plan number, 21 or 13 fits: no bit above N, and a store of exact length
--   good_or_still  a state is good, or no call changes it
--   passed         a fit message has passed its tests, 22 and 12
--   fit_good       a state with a fit arrival and no bit above N is good
--   Step           what one call does to the hosts heard and to the blocks of a good state
--   number         the number that an arrival is told
--   after_refused  a refused arrival changes nothing
--   after_again    an arrival of a host heard changes nothing, whatever it is told
--   named, own_fit an arrival that is fit for a host names it; a fit one is fit for the host that it names
--   fit_has        what a fit arrival has passed
--   number_fit     23 alone decides the number of a fit arrival
--   number_core    past the plan's tests, 21 and 13, the message's tests, 22, 12, 30 and 23 decide the number
--   stepped        every call does what a step does
use mathlib.Core.Path.{◌≡◌, refl, sym, ap, ap₂, ◌∙◌, subst}
use mathlib.Core.Bool.{Bool, true, false, cond, not, ◌&&◌, ◌||◌, true≢false, and-eq-true_iff}
use mathlib.Core.Logic.{◌⊎◌, inl, inr, ⊎_elim}
use mathlib.Core.List.{List, [], ◌∷◌, ◌++◌, append_assoc}
use Prim.Native.Nat.{ℕ, zero, suc, ◌+◌, ◌*◌, ◌^◌, ◌<◌, ◌≤◌}
use native.Mathlib.Nat.{mul-le-mul_right}
use native.Mathlib.Omega.{arith}
use lib.Dec.{eqb}
use lib.ListN.{length}
use borrow.Author.Tests.{eqb-true, eqb-false, eq-eqb, leb-false, not-false}
use Rattle.algebra.specs.Lists.{AllBelow}
use Rattle.algebra.proofs.Tests.{by_test, or_true, or_false, equal}
use Rattle.refusal.specs.Chain.{first, outcome, answered, unless_refused}
use Rattle.refusal.proofs.Chains.{first_none, first_miss, first_clear, first_append, first_append_clear, first_append_hit}
use Rattle.plan.specs.Planning.{prime, in_window, plan_tests}
use Rattle.plan.proofs.Then.{plan_numbered}
use Rattle.message.specs.Format.{elements}
use Rattle.arrival_heard.specs.Heard.{is_heard, with_host, some_above}
use Rattle.arrival_heard.proofs.Bits.{with_own, with_other, with_below}
use Rattle.arrival.proofs.Outcomes.{arrived_by}
use Rattle.arrival.specs.Arriving.{answer_length, store_length, block_at, with_block, repeated, state_tests, minute_tests, again_tests, arrival_tests, entered, store_entered, arrived, store_after, heard_after}
use Rattle.promise.specs.Demand3.{Task, Call, arrival, decoding, State, arrives, after, fit, fit_for, bytes}
use Rattle.promise.specs.Retried.{index}
use Rattle.promise.proofs.Fits.{core, core_numbered, FitArrival, fit_arrival, fit_core, arrival_core, FitMessage, fit_message}
use Rattle.promise.proofs.Blocks.{length_with, block_own, block_other}

pub record Good (x : Task) (s : State) : Type 0 where
  pub planned : first (plan_tests x.job x.points) ≡ 0
  pub none_above : s.heard < 2 ^ x.job.hosts
  pub room : length s.store ≡ store_length x.job

-- the call c takes the state s to the state t
pub record Step (x : Task) (s : State) (c : Call) (t : State) : Type 0 where
  pub good : Good x t
  pub heard : (i : ℕ) → is_heard t.heard i ≡ (is_heard s.heard i || fit_for x s i c)
  -- the block of a host heard stays, that of a new one is its message's, and that of any other stays
  pub kept : (i : ℕ) → is_heard s.heard i ≡ true → block_at (answer_length x.job) t.store i ≡ block_at (answer_length x.job) s.store i
  pub new : (i : ℕ) → is_heard s.heard i ≡ false → fit_for x s i c ≡ true → block_at (answer_length x.job) t.store i ≡ elements (bytes x c)
  pub other : (i : ℕ) → fit_for x s i c ≡ false → block_at (answer_length x.job) t.store i ≡ block_at (answer_length x.job) s.store i
  pub below : (i : ℕ) → fit_for x s i c ≡ true → AllBelow (prime x.job) (elements (bytes x c))

-- ---- what an arrival leaves, by its number

module _ (x : Task) (s : State) (message : List ℕ) where
  taken : State
  taken = record {
    heard = with_host s.heard (index message);
    store = with_block (answer_length x.job) s.store (index message) (elements message);
  }

  -- what the number n leaves, of a host that is heard or not
  left : ℕ → Bool → State
  left n h = record {
    heard = heard_after s.heard (arrived_by s.heard message n h);
    store = outcome n (cond h s.store (with_block (answer_length x.job) s.store (index message) (elements message))) (λ k. s.store);
  }

module _ (x : Task) (s : State) (message : List ℕ) (minute : ℕ) where
  unfoldable pub number : ℕ
  number = first (arrival_tests x.job x.points s.heard s.store message minute)

  after_left : after x s (arrival message minute) ≡ left x s message number (is_heard s.heard (index message))
  unfolding after arrives arrived entered store_after store_entered answered unless_refused outcome left number
  after_left = refl

  after_taken : number ≡ 0 → is_heard s.heard (index message) ≡ false → after x s (arrival message minute) ≡ taken x s message
  unfolding left taken outcome
  after_taken e h = after_left ∙ ap₂ (left x s message) e h

  pub after_refused : (number ≡ 0 → ⊥) → after x s (arrival message minute) ≡ s
  unfolding left outcome
  after_refused ne = after_left ∙ go number ne
    where
      go : (n : ℕ) → (n ≡ 0 → ⊥) → left x s message n (is_heard s.heard (index message)) ≡ s
      go zero ne = absurd (ne refl)
      go (suc n) ne = refl

  pub after_again : is_heard s.heard (index message) ≡ true → after x s (arrival message minute) ≡ s
  unfolding left outcome
  after_again h = after_left ∙ ap (left x s message number) h ∙ go number
    where
      go : (n : ℕ) → left x s message n true ≡ s
      go zero = refl
      go (suc n) = refl

-- ---- the state decides, or the message does

module _ (x : Task) (s : State) where
  -- the number of a plan, 21 or 13
  first_tests : ℕ
  first_tests = first (plan_tests x.job x.points ++ state_tests x.job s.heard (length s.store))

  tests_good : first_tests ≡ 0 → Good x s
  unfolding first_tests state_tests some_above
  tests_good e =
      let parts = first_append_clear (plan_tests x.job x.points) _ (plan_numbered x.job x.points) e in
      let above = first_clear _ 20 _ parts.1 in
      record {
        planned = parts.0;
        none_above = leb-false (2 ^ x.job.hosts) s.heard above.0;
        room = equal _ _ (first_clear _ 12 _ above.1).0;
      }

  -- one of these fits: every arrival is told it
  kept : (first_tests ≡ 0 → ⊥) → (c : Call) → after x s c ≡ s
  unfolding first_tests number arrival_tests after
  kept ne (decoding table) = refl
  kept ne (arrival message minute) =
      let told = first_append_hit (plan_tests x.job x.points ++ state_tests x.job s.heard (length s.store)) _ first_tests ne refl in
      after_refused x s message minute (λ z. ne (sym told ∙ ap first (append_assoc (plan_tests x.job x.points) _ _) ∙ z))

  pub good_or_still : Good x s ⊎ ((c : Call) → after x s c ≡ s)
  good_or_still =
      ⊎_elim (λ (e : eqb first_tests 0 ≡ true). inl (tests_good (eqb-true first_tests 0 e)))
      (λ (e : eqb first_tests 0 ≡ false). inr (kept (eqb-false first_tests 0 e)))
      (by_test (eqb first_tests 0))

  module _ (message : List ℕ) (minute : ℕ) (f : fit x s message minute ≡ true) where
    pub fit_has : FitArrival x.job x.points s.heard s.store message minute
    unfolding fit
    fit_has = fit_arrival x.job x.points s.heard s.store message minute f

    pub passed : first (core x.job message) ≡ 0
    passed = fit_has.clear

    pub fit_good : s.heard < 2 ^ x.job.hosts → Good x s
    fit_good none_above = record { planned = fit_has.planned; none_above = none_above; room = fit_has.room }

-- ---- a step from a good state

module _ (x : Task) (s : State) (message : List ℕ) (minute : ℕ) where
  -- the message names host i and is fit
  pub named : (i : ℕ) → fit_for x s i (arrival message minute) ≡ true → (fit x s message minute ≡ true) × (index message ≡ i)
  unfolding fit_for
  named i e = let both = (and-eq-true_iff (fit x s message minute) (eqb (index message) i)).0 e in (both.0, eqb-true (index message) i both.1)

  pub own_fit : fit x s message minute ≡ true → (i : ℕ) → index message ≡ i → fit_for x s i (arrival message minute) ≡ true
  unfolding fit_for
  own_fit f i e = ap₂ ◌&&◌ f (eq-eqb (index message) i e)

  other_fit : (i : ℕ) → (index message ≡ i → ⊥) → fit_for x s i (arrival message minute) ≡ false
  other_fit i ne =
      ⊎_elim (λ (t : fit_for x s i (arrival message minute) ≡ true). absurd (ne (named i t).1)) (λ (f : fit_for x s i (arrival message minute) ≡ false). f)
      (by_test (fit_for x s i (arrival message minute)))

  below_of : (i : ℕ) → fit_for x s i (arrival message minute) ≡ true → AllBelow (prime x.job) (elements (bytes x (arrival message minute)))
  unfolding bytes
  below_of i f = (fit_message x.job message (passed x s message minute (named i f).0)).below

module _ (x : Task) (s : State) (good : Good x s) where
  -- nothing changes, and no new host has a fit message
  still : (c : Call) → ((i : ℕ) → fit_for x s i c ≡ true → is_heard s.heard i ≡ true)
      → ((i : ℕ) → fit_for x s i c ≡ true → AllBelow (prime x.job) (elements (bytes x c))) → Step x s c s
  still c old below = record {
    good = good;
    heard = λ i. same (is_heard s.heard i) (fit_for x s i c) (old i);
    kept = λ i h. refl;
    new = λ i clear f. absurd (true≢false (sym (old i f) ∙ clear));
    other = λ i f. refl;
    below = below;
  }
    where
      same : (h f : Bool) → (f ≡ true → h ≡ true) → h ≡ (h || f)
      same true f old = refl
      same false true old = old refl
      same false false old = refl

  module _ (message : List ℕ) (minute : ℕ) where
    pub number_core : number x s message minute
        ≡ first (core x.job message ++ (minute_tests x.job minute ++ again_tests (answer_length x.job) s.heard s.store message))
    unfolding number
    number_core = arrival_core x.job x.points s.heard s.store message minute good.planned good.room good.none_above

    -- an unfit arrival, one of a host heard already, and one that is taken
    unfit : fit x s message minute ≡ false → Step x s (arrival message minute) (after x s (arrival message minute))
    unfolding fit minute_tests
    unfit e =
        let refused : number x s message minute ≡ 0 → ⊥
        = λ z.
        let parts = first_append_clear (core x.job message) _ (core_numbered x.job message) (sym number_core ∙ z) in
        let inside = not-false (in_window x.job minute) (first_clear _ 29 _ parts.1).0 in
        let passes = fit_core x.job x.points s.heard s.store message minute good.planned good.room ∙ ap₂ ◌&&◌ inside (eq-eqb _ 0 parts.0) in
        true≢false (sym passes ∙ e) in
        subst (Step x s (arrival message minute)) (sym (after_refused x s message minute refused))
        (still (arrival message minute) (λ i f. absurd (true≢false (sym (named x s message minute i f).0 ∙ e))) (below_of x s message minute))

    module _ (f : fit x s message minute ≡ true) where
      pub number_fit : {h r : Bool} → is_heard s.heard (index message) ≡ h → repeated (answer_length x.job) s.store message ≡ r
          → number x s message minute ≡ first ((h && not r, 23) ∷ [])
      unfolding minute_tests again_tests
      number_fit eh er =
          number_core
          ∙ first_append (core x.job message) _ (core_numbered x.job message) (passed x s message minute f)
          ∙ first_miss _ 30 _ (ap not (fit_has x s message minute f).inside)
          ∙ ap₂ (λ (h r : Bool). first ((h && not r, 23) ∷ [])) eh er

      again : is_heard s.heard (index message) ≡ true → Step x s (arrival message minute) (after x s (arrival message minute))
      again h =
          subst (Step x s (arrival message minute)) (sym (after_again x s message minute h))
          (still (arrival message minute) (λ i g. ap (is_heard s.heard) (sym (named x s message minute i g).1) ∙ h) (below_of x s message minute))

      module _ (clear : is_heard s.heard (index message) ≡ false) where
        own : FitMessage x.job message
        own = fit_message x.job message (passed x s message minute f)

        block : index message * answer_length x.job + answer_length x.job ≤ length s.store
        unfolding store_length
        block =
            let rows : (index message + 1) * answer_length x.job ≤ x.job.hosts * answer_length x.job
            = mul-le-mul_right (answer_length x.job) (let l : index message + 1 ≤ x.job.hosts = omega (arith, own.index) in l) in
            omega (arith, good.room)

        heard_by : (i : ℕ) → is_heard (with_host s.heard (index message)) i ≡ (is_heard s.heard i || fit_for x s i (arrival message minute))
        heard_by i =
            ⊎_elim
            (λ (e : eqb (index message) i ≡ true).
            let same = eqb-true (index message) i e in
            ap (is_heard (with_host s.heard (index message))) (sym same)
            ∙ with_own s.heard (index message) clear
            ∙ sym (or_true (is_heard s.heard i) (fit_for x s i (arrival message minute)) (own_fit x s message minute f i same)))
            (λ (e : eqb (index message) i ≡ false).
            let ne = eqb-false (index message) i e in
            with_other s.heard (index message) clear i ne
            ∙ sym (or_false (is_heard s.heard i) (fit_for x s i (arrival message minute)) (other_fit x s message minute i ne)))
            (by_test (eqb (index message) i))

        -- the block of another host stays
        stays : (i : ℕ) → (i ≡ index message → ⊥)
            → block_at (answer_length x.job) (taken x s message).store i ≡ block_at (answer_length x.job) s.store i
        unfolding taken
        stays = block_other (answer_length x.job) s.store (index message) (elements message) block own.fills

        take : Step x s (arrival message minute) (taken x s message)
        unfolding taken bytes
        take = record {
          good = record {
            planned = good.planned;
            none_above = with_below s.heard (index message) clear x.job.hosts good.none_above own.index;
            room = length_with (answer_length x.job) s.store (index message) (elements message) block own.fills ∙ good.room;
          };
          heard = heard_by;
          kept = λ i h. stays i (λ e. true≢false (sym h ∙ ap (is_heard s.heard) e ∙ clear));
          new = λ i c g.
              ap (block_at (answer_length x.job) (with_block (answer_length x.job) s.store (index message) (elements message)))
              (sym (named x s message minute i g).1)
              ∙ block_own (answer_length x.job) s.store (index message) (elements message) block own.fills;
          other = λ i g. stays i (λ e. true≢false (sym (own_fit x s message minute f i (sym e)) ∙ g));
          below = below_of x s message minute;
        }

        fresh : Step x s (arrival message minute) (after x s (arrival message minute))
        fresh =
            subst (Step x s (arrival message minute)) (sym (after_taken x s message minute (number_fit clear refl ∙ first_miss false 23 [] refl ∙ first_none) clear)) take

  pub stepped : (c : Call) → Step x s c (after x s c)
  unfolding after fit_for
  stepped (decoding table) = still (decoding table) (λ i e. absurd (true≢false (sym e))) (λ i e. absurd (true≢false (sym e)))
  stepped (arrival message minute) =
      ⊎_elim
      (λ (f : fit x s message minute ≡ true).
      ⊎_elim (λ (h : is_heard s.heard (index message) ≡ true). again message minute f h)
      (λ (clear : is_heard s.heard (index message) ≡ false). fresh message minute f clear)
      (by_test (is_heard s.heard (index message))))
      (λ (e : fit x s message minute ≡ false). unfit message minute e)
      (by_test (fit x s message minute))
