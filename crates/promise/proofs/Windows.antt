-- Upload windows (02, U7): the promises hold.
--
--   inside, window, outside, alone, clock    the promises about one arrival
--   there, back                              that about the arrivals that count, in both directions
--   windowed                                 the promises hold
use mathlib.Core.Path.{◌≡◌, refl, sym, ap, ap₂, ◌∙◌}
use mathlib.Core.Bool.{Bool, true, false, not, ◌&&◌, ◌||◌, true≢false, and-true, and-eq-true_iff}
use mathlib.Core.Logic.{◌↔◌, ⊎_elim}
use mathlib.Core.List.{List, [], ◌∷◌, ◌++◌}
use Prim.Native.Nat.{ℕ, ◌^◌, ◌<◌, ◌≤◌}
use native.Mathlib.Nat.{suc-ne-zero}
use native.Mathlib.Omega.{arith}
use lib.Dec.{eqb, leb, ltb}
use lib.ListN.{length}
use borrow.Author.Tests.{eq-eqb, leb-true, ltb-true, le-leb, lt-ltb}
use Rattle.algebra.proofs.Tests.{tests_alike, or_true}
use Rattle.refusal.specs.Numbers.{refusal_of, sheet}
use Rattle.refusal.specs.Chain.{first, outcome}
use Rattle.refusal.proofs.Chains.{first_hit, first_append}
use Rattle.plan.specs.declared.Job.{Job}
use Rattle.plan.specs.Planning.{in_window, plan_tests}
use Rattle.plan.proofs.Facts.{facts}
use Rattle.arrival.specs.Arriving.{minute_tests}
use Rattle.promise.specs.Demand3.{Task, Call, arrival, decoding, State, reply, after, run, fit, fit_for, has_fit}
use Rattle.promise.specs.Retried.{index}
use Rattle.promise.specs.Windows.{missed, Counted, UploadWindows}
use Rattle.promise.proofs.Fits.{core, core_numbered, fit_core, fit_alike}
use Rattle.promise.proofs.Steps.{Good, number, number_core, after_refused, fit_has, fit_good, good_or_still, named, own_fit, stepped}
use Rattle.promise.proofs.Retried.{replied, reply_is}

-- what is inside, as two comparisons
inside : (job : Job) (minute : ℕ) → (in_window job minute ≡ true) ↔ ((job.opening ≤ minute) × (minute < job.closing))
unfolding in_window
inside job minute = (
  (λ e.
      let both = (and-eq-true_iff (leb job.opening minute) (ltb minute job.closing)).0 e in
      (leb-true _ _ both.0, ltb-true _ _ both.1)),
  (λ h. ap₂ ◌&&◌ (le-leb _ _ h.0) (lt-ltb _ _ h.1)),
)

-- the opening minute of a planned job is inside its window
opens : (job : Job) (points : List ℕ) → first (plan_tests job points) ≡ 0 → in_window job job.opening ≡ true
opens job points e = (inside job job.opening).1 (omega arith, (facts job points e).fits.opens_before)

-- ---- one arrival

module _ (x : Task) (s : State) (message : List ℕ) where
  -- a message that is fit at one minute is fit at every minute inside the window
  fit_at : (minute : ℕ) → fit x s message minute ≡ true → (other : ℕ) → fit x s message other ≡ in_window x.job other
  unfolding fit
  fit_at minute f other =
      let has = fit_has x s message minute f in
      fit_core x.job x.points s.heard s.store message other has.planned has.room
      ∙ ap (λ (t : Bool). in_window x.job other && t) (eq-eqb _ 0 has.clear)
      ∙ and-true (in_window x.job other)

  -- beside the window its minute plays no part
  window : (minute : ℕ) → fit x s message minute ≡ (in_window x.job minute && fit x s message x.job.opening)
  window minute =
      tests_alike _ _
      (λ f.
      let has = fit_has x s message minute f in
      ap₂ ◌&&◌ has.inside (fit_at minute f x.job.opening ∙ opens x.job x.points has.planned))
      (λ e.
      let both = (and-eq-true_iff (in_window x.job minute) (fit x s message x.job.opening)).0 e in
      fit_at x.job.opening both.1 minute ∙ both.0)

  -- it is told 30, and changes nothing
  outside : s.heard < 2 ^ x.job.hosts → (minute : ℕ) → fit x s message x.job.opening ≡ true → in_window x.job minute ≡ false
      → (reply x s (arrival message minute) ≡ missed) × (after x s (arrival message minute) ≡ s)
  unfolding minute_tests missed replied outcome refusal_of sheet
  outside none minute f out =
      let has = fit_has x s message x.job.opening f in
      let told : number x s message minute ≡ 30
      = number_core x s (fit_good x s message x.job.opening f none) message minute
      ∙ first_append (core x.job message) _ (core_numbered x.job message) has.clear
      ∙ first_hit _ 30 _ (ap not out) in
      (reply_is x s message minute told refl, after_refused x s message minute (λ z. suc-ne-zero 29 (sym told ∙ z)))

-- of the state, the length of the store alone plays a part
alone : (x : Task) (s s' : State) → length s.store ≡ length s'.store → (message : List ℕ) (minute : ℕ) → fit x s message minute ≡ fit x s' message minute
unfolding fit
alone x s s' same message minute =
    ap (λ (n : ℕ). eqb n 0) (fit_alike x.job x.points s.heard s'.heard s.store s'.store message minute same)

-- ---- a list of calls

-- no call changes the length of the store
kept_length : (x : Task) (s : State) (c : Call) → length (after x s c).store ≡ length s.store
kept_length x s c =
    ⊎_elim (λ (good : Good x s). (stepped x s good c).good.room ∙ sym good.room) (λ still. ap (λ (t : State). length t.store) (still c))
    (good_or_still x s)

-- whatever calls come before
clock : (x : Task) (before : List Call) (s : State) (message : List ℕ) (minute : ℕ) → fit x (run x s before) message minute ≡ fit x s message minute
unfolding run
clock x [] s message minute = refl
clock x (c ∷ before) s message minute = clock x before (after x s c) message minute ∙ alone x (after x s c) s (kept_length x s c) message minute

module _ (x : Task) (i : ℕ) where
  -- the first call counts, or a later one does
  own_counted : (s : State) (c : Call) (cs : List Call) → fit_for x s i c ≡ true → Counted x s (c ∷ cs) i
  unfolding fit_for
  own_counted s (arrival message minute) cs f =
      let own = named x s message minute i f in
      let both = (and-eq-true_iff (in_window x.job minute) _).0 (sym (window x s message minute) ∙ own.0) in
      ([], cs, message, minute, refl, own.1, both.0, both.1)
  own_counted s (decoding table) cs f = absurd (true≢false (sym f))

  later_counted : (s : State) (c : Call) (cs : List Call) → Counted x (after x s c) cs i → Counted x s (c ∷ cs) i
  later_counted s c cs (before, rest, message, minute, e, at, within, f) = (
    c ∷ before,
    rest,
    message,
    minute,
    ap (λ (l : List Call). c ∷ l) e,
    at,
    within,
    alone x s (after x s c) (sym (kept_length x s c)) message x.job.opening ∙ f,
  )

  -- a host with a fit message has such an arrival, and the other way round
  there : (calls : List Call) (s : State) → has_fit x s calls i ≡ true → Counted x s calls i
  unfolding has_fit
  there [] s e = absurd (true≢false (sym e))
  there (c ∷ cs) s e = go (fit_for x s i c) (own_counted s c cs) (λ h. later_counted s c cs (there cs (after x s c) h)) e
    where
      go : (t : Bool) → (t ≡ true → Counted x s (c ∷ cs) i) → (has_fit x (after x s c) cs i ≡ true → Counted x s (c ∷ cs) i)
          → (t || has_fit x (after x s c) cs i) ≡ true → Counted x s (c ∷ cs) i
      go true own rest e = own refl
      go false own rest e = rest e

  back : (before rest : List Call) (message : List ℕ) (minute : ℕ) → index message ≡ i → in_window x.job minute ≡ true
      → (s : State) → fit x s message x.job.opening ≡ true → has_fit x s (before ++ (arrival message minute ∷ rest)) i ≡ true
  unfolding has_fit
  back [] rest message minute at within s f =
      ap (λ (t : Bool). t || has_fit x (after x s (arrival message minute)) rest i)
      (own_fit x s message minute (window x s message minute ∙ ap₂ ◌&&◌ within f) i at)
  back (c ∷ before) rest message minute at within s f =
      or_true (fit_for x s i c) _
      (back before rest message minute at within (after x s c) (alone x (after x s c) s (kept_length x s c) message x.job.opening ∙ f))

pub windowed : UploadWindows
windowed x = record {
  inside = inside x.job;
  window = window x;
  alone = alone x;
  clock = λ s before. clock x before s;
  outside = λ s none message minute. outside x s message none minute;
  counted = λ s calls i. (
    there x i calls s,
    (λ (before, rest, message, minute, e, at, within, f).
        ap (λ (cs : List Call). has_fit x s cs i) e ∙ back x i before rest message minute at within s f),
  );
}
