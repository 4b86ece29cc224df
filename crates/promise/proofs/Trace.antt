-- A list of arrivals and decodings, call by call (00, demand 3, from "Yet" on).
--
--   Ran            what a list of calls does
--   ran            every list of calls does that, from a good state on
--   run_still      in a state that no call changes, no list of calls does
--   has_good       a state with a fit message among the calls from it on, and no bit above N, is good
--   heard_is       from no host heard on, those with a fit message are heard
--   replies_at     the reply to a call in the middle of a list is the one in the state that the calls before it leave
use mathlib.Core.Path.{◌≡◌, refl, sym, ap, ◌∙◌, subst}
use mathlib.Core.Bool.{Bool, true, false, cond, ◌||◌, true≢false}
use mathlib.Core.Logic.{⊎_elim}
use mathlib.Core.List.{List, [], ◌∷◌, ◌++◌}
use Prim.Native.Nat.{ℕ, ◌^◌, ◌<◌}
use lib.ListN.{length, get_or}
use Rattle.algebra.specs.Lists.{AllBelow}
use Rattle.algebra.proofs.Tests.{by_test, or_left, or_right, or_true, or_false, or_assoc}
use Rattle.plan.specs.Planning.{prime}
use Rattle.message.specs.Format.{elements}
use Rattle.arrival_heard.specs.Heard.{is_heard}
use Rattle.arrival_heard.proofs.Bits.{none_heard}
use Rattle.arrival.specs.Arriving.{answer_length, block_at}
use Rattle.promise.specs.Demand3.{Task, Call, arrival, decoding, State, unanswered, after, reply, run, replies, fit_for, has_fit, bytes, first_fit, begin}
use Rattle.promise.proofs.Steps.{Good, Step, stepped, good_or_still, fit_good, named}

-- the calls cs from the state s on
pub record Ran (x : Task) (s : State) (cs : List Call) : Type 0 where
  pub good : Good x (run x s cs)
  pub heard : (i : ℕ) → is_heard (run x s cs).heard i ≡ (is_heard s.heard i || has_fit x s cs i)
  pub kept : (i : ℕ) → is_heard s.heard i ≡ true
      → block_at (answer_length x.job) (run x s cs).store i ≡ block_at (answer_length x.job) s.store i
  pub new : (i : ℕ) → is_heard s.heard i ≡ false → has_fit x s cs i ≡ true
      → block_at (answer_length x.job) (run x s cs).store i ≡ elements (first_fit x s cs i)
  pub other : (i : ℕ) → has_fit x s cs i ≡ false
      → block_at (answer_length x.job) (run x s cs).store i ≡ block_at (answer_length x.job) s.store i
  pub below : (i : ℕ) → has_fit x s cs i ≡ true → AllBelow (prime x.job) (elements (first_fit x s cs i))

module _ (x : Task) where
  -- where the first call has none for a host, a fit message comes later
  fit_later : (s : State) (c : Call) (cs : List Call) (i : ℕ) → fit_for x s i c ≡ false → has_fit x s (c ∷ cs) i ≡ has_fit x (after x s c) cs i
  unfolding has_fit
  fit_later s c cs i f = ap (λ (t : Bool). t || has_fit x (after x s c) cs i) f

  pub ran : (cs : List Call) (s : State) → Good x s → Ran x s cs
  unfolding run has_fit first_fit
  ran [] s good = record {
    good = good;
    heard = λ i. sym (or_false (is_heard s.heard i) false refl);
    kept = λ i h. refl;
    new = λ i clear e. absurd (true≢false (sym e));
    other = λ i e. refl;
    below = λ i e. absurd (true≢false (sym e));
  }
  ran (c ∷ cs) s good = more c cs s (stepped x s good c) (ran cs (after x s c) (stepped x s good c).good)
    where
      more : (c : Call) (cs : List Call) (s : State) → Step x s c (after x s c) → Ran x (after x s c) cs → Ran x s (c ∷ cs)
      more c cs s step rest = record {
        good = rest.good;
        heard = λ i.
            rest.heard i
            ∙ ap (λ (t : Bool). t || has_fit x (after x s c) cs i) (step.heard i)
            ∙ or_assoc (is_heard s.heard i) (fit_for x s i c) (has_fit x (after x s c) cs i);
        kept = λ i h. rest.kept i (step.heard i ∙ ap (λ (t : Bool). t || fit_for x s i c) h) ∙ step.kept i h;
        new = λ i clear e.
            ⊎_elim
            (λ (f : fit_for x s i c ≡ true).
            rest.kept i (step.heard i ∙ or_true (is_heard s.heard i) (fit_for x s i c) f) ∙ step.new i clear f ∙ ap elements (sym (own i f)))
            (λ (f : fit_for x s i c ≡ false).
            rest.new i (step.heard i ∙ or_false (is_heard s.heard i) (fit_for x s i c) f ∙ clear) (sym (fit_later s c cs i f) ∙ e)
            ∙ ap elements (sym (later i f)))
            (by_test (fit_for x s i c));
        other = λ i e.
            rest.other i (or_right (fit_for x s i c) (has_fit x (after x s c) cs i) e)
            ∙ step.other i (or_left (fit_for x s i c) (has_fit x (after x s c) cs i) e);
        below = λ i e.
            let first_below : List ℕ → Type 0 = λ m. AllBelow (prime x.job) (elements m) in
            ⊎_elim (λ (f : fit_for x s i c ≡ true). subst first_below (sym (own i f)) (step.below i f))
            (λ (f : fit_for x s i c ≡ false). subst first_below (sym (later i f)) (rest.below i (sym (fit_later s c cs i f) ∙ e)))
            (by_test (fit_for x s i c));
      }
        where
          -- the first of all is this call's, or the first of the rest
          first_is : Bool → ℕ → List ℕ
          first_is t i = cond t (bytes x c) (first_fit x (after x s c) cs i)

          own : (i : ℕ) → fit_for x s i c ≡ true → first_fit x s (c ∷ cs) i ≡ bytes x c
          own i f = ap (λ (t : Bool). first_is t i) f

          later : (i : ℕ) → fit_for x s i c ≡ false → first_fit x s (c ∷ cs) i ≡ first_fit x (after x s c) cs i
          later i f = ap (λ (t : Bool). first_is t i) f

  pub heard_is : (store : List ℕ) → Good x (begin store) → (cs : List Call) (i : ℕ)
      → is_heard (run x (begin store) cs).heard i ≡ has_fit x (begin store) cs i
  unfolding begin
  heard_is store good cs i = (ran cs (begin store) good).heard i ∙ ap (λ (t : Bool). t || has_fit x (begin store) cs i) (none_heard i)

  pub replies_at : (before rest : List Call) (c : Call) (s : State)
      → get_or (replies x s (before ++ (c ∷ rest))) (length before) unanswered ≡ reply x (run x s before) c
  unfolding replies run
  replies_at [] rest c s = refl
  replies_at (b ∷ before) rest c s = replies_at before rest c (after x s b)

module _ (x : Task) (s : State) where
  pub run_still : ((c : Call) → after x s c ≡ s) → (cs : List Call) → run x s cs ≡ s
  unfolding run
  run_still same [] = refl
  run_still same (c ∷ cs) = ap (λ (t : State). run x t cs) (same c) ∙ run_still same cs

  pub has_good : (cs : List Call) (i : ℕ) → s.heard < 2 ^ x.job.hosts → has_fit x s cs i ≡ true → Good x s
  unfolding fit_for has_fit
  has_good cs i none_above has = ⊎_elim (λ good. good) (λ same. go same cs has) (good_or_still x s)
    where
      own : (c : Call) → fit_for x s i c ≡ true → Good x s
      own (arrival message minute) f = fit_good x s message minute (named x s message minute i f).0 none_above
      own (decoding table) f = absurd (true≢false (sym f))

      go : ((c : Call) → after x s c ≡ s) → (cs : List Call) → has_fit x s cs i ≡ true → Good x s
      go same [] e = absurd (true≢false (sym e))
      go same (c ∷ cs) e =
          ⊎_elim (λ (f : fit_for x s i c ≡ true). own c f)
          (λ (f : fit_for x s i c ≡ false).
          go same cs (ap (λ (t : State). has_fit x t cs i) (sym (same c)) ∙ sym (fit_later x s c cs i f) ∙ e))
          (by_test (fit_for x s i c))
