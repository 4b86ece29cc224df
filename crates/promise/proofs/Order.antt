-- The order of arrivals (02, U1): it makes no difference where no two fit messages of one host differ.
--
--   repeats      two lists with the same fit messages leave the same, however often each comes
--   any_order    so do the same calls in any order
use mathlib.Core.Path.{◌≡◌, refl, sym, ap, ◌∙◌, subst}
use mathlib.Core.Bool.{Bool, true, false, cond, ◌&&◌, ◌||◌, true≢false}
use mathlib.Core.Logic.{◌↔◌, ◌⊎◌, inl, inr, ⊎_elim}
use mathlib.Core.List.Permᴰ
use mathlib.Core.List.{List, [], ◌∷◌}
use Prim.Native.Nat.{ℕ, zero, suc, suc-le-suc}
use native.Mathlib.Nat.{zero-lt-suc, not-suc-le-zero, le_of_suc-le-suc}
use lib.Dec.{eqb}
use lib.ListN.{length}
use Rattle.algebra.proofs.Tests.{by_test, tests_alike}
use Rattle.refusal.specs.Chain.{first}
use Rattle.plan.specs.Planning.{in_window}
use Rattle.message.specs.Format.{elements}
use Rattle.arrival_heard.specs.Heard.{is_heard}
use Rattle.arrival_heard.proofs.Bits.{bits_alike}
use Rattle.arrival.specs.Arriving.{answer_length, store_length, block_at}
use Rattle.promise.specs.Demand3.{Task, Call, arrival, decoding, State, after, run, fit, fit_for, has_fit, bytes, first_fit}
use Rattle.promise.specs.Retried.{index, fit_messages, Agree, Among, Shuffled}
use Rattle.promise.proofs.Fits.{core, fit_core}
use Rattle.promise.proofs.Blocks.{blocks_alike}
use Rattle.promise.proofs.Steps.{Good, stepped, good_or_still}
use Rattle.promise.proofs.Trace.{ran, run_still}

-- ---- one of some messages

-- a list with or without one more at its front
front_or_rest : (t : Bool) (m : List ℕ) (a : List ℕ) (ms : List (List ℕ)) → Among m (cond t (a ∷ ms) ms) → ((t ≡ true) × (a ≡ m)) ⊎ Among m ms
front_or_rest true m a ms (zero, l, e) = inl (refl, e)
front_or_rest true m a ms (suc j, l, e) = inr (j, le_of_suc-le-suc l, e)
front_or_rest false m a ms among = inr among

from_front_or_rest : (t : Bool) (m : List ℕ) (a : List ℕ) (ms : List (List ℕ)) → ((t ≡ true) × (a ≡ m)) ⊎ Among m ms → Among m (cond t (a ∷ ms) ms)
from_front_or_rest true m a ms (inl own) = (0, zero-lt-suc (length ms), own.1)
from_front_or_rest true m a ms (inr rest) = (suc rest.0, suc-le-suc rest.1, rest.2)
from_front_or_rest false m a ms (inl own) = absurd (true≢false (sym own.0))
from_front_or_rest false m a ms (inr rest) = rest

module _ (x : Task) where
  -- a host's first fit message is one of its fit messages
  first_among : (cs : List Call) (s : State) (i : ℕ) → has_fit x s cs i ≡ true → Among (first_fit x s cs i) (fit_messages x s cs i)
  unfolding has_fit fit_messages first_fit
  first_among [] s i e = absurd (true≢false (sym e))
  first_among (c ∷ cs) s i e = go (fit_for x s i c) (first_among cs (after x s c) i) e
    where
      later : List (List ℕ)
      later = fit_messages x (after x s c) cs i

      go : (t : Bool) → (has_fit x (after x s c) cs i ≡ true → Among (first_fit x (after x s c) cs i) later)
          → (t || has_fit x (after x s c) cs i) ≡ true
          → Among (cond t (bytes x c) (first_fit x (after x s c) cs i)) (cond t (bytes x c ∷ later) later)
      go true rest e = (0, zero-lt-suc (length later), refl)
      go false rest e = rest e

  -- a host with one among its fit messages has a fit message
  among_fit : (cs : List Call) (s : State) (i : ℕ) (m : List ℕ) → Among m (fit_messages x s cs i) → has_fit x s cs i ≡ true
  unfolding has_fit fit_messages
  among_fit [] s i m among = absurd (not-suc-le-zero among.1)
  among_fit (c ∷ cs) s i m among = go (fit_for x s i c) (among_fit cs (after x s c) i m) among
    where
      later : List (List ℕ)
      later = fit_messages x (after x s c) cs i

      go : (t : Bool) → (Among m later → has_fit x (after x s c) cs i ≡ true) → Among m (cond t (bytes x c ∷ later) later)
          → (t || has_fit x (after x s c) cs i) ≡ true
      go true rest among = refl
      go false rest among = rest among

  -- ---- fit messages, whatever the state

  -- a call is a fit message of the host of index i
  unfoldable ours : ℕ → Call → Bool
  ours i (arrival message minute) = (in_window x.job minute && eqb (first (core x.job message)) 0) && eqb (index message) i
  ours i (decoding table) = false

  -- m is a fit message of the host of index i among some calls
  unfoldable Has : ℕ → List ℕ → List Call → Type 0
  Has i m [] = ⊥
  Has i m (c ∷ cs) = ((ours i c ≡ true) × (bytes x c ≡ m)) ⊎ Has i m cs

  has_shuffled : (i : ℕ) (m : List ℕ) {cs ds : List Call} → Shuffled cs ds → Has i m cs → Has i m ds
  unfolding Has
  has_shuffled i m Permᴰ.nil has = has
  has_shuffled i m (Permᴰ.cons e d) has =
      ⊎_elim (λ own. inl (subst (λ (c : Call). (ours i c ≡ true) × (bytes x c ≡ m)) e own)) (λ rest. inr (has_shuffled i m d rest)) has
  has_shuffled i m (Permᴰ.swap e f) has =
      ⊎_elim (λ own. inr (inl (subst (λ (c : Call). (ours i c ≡ true) × (bytes x c ≡ m)) e own)))
      (⊎_elim (λ own. inl (subst (λ (c : Call). (ours i c ≡ true) × (bytes x c ≡ m)) f own)) (λ rest. inr (inr rest)))
      has
  has_shuffled i m (Permᴰ.trans d e) has = has_shuffled i m e (has_shuffled i m d has)

  fit_ours : (s : State) → Good x s → (i : ℕ) (c : Call) → fit_for x s i c ≡ ours i c
  unfolding fit fit_for ours
  fit_ours s good i (arrival message minute) =
      ap (λ (t : Bool). t && eqb (index message) i) (fit_core x.job x.points s.heard s.store message minute good.planned good.room)
  fit_ours s good i (decoding table) = refl

  among_has : (cs : List Call) (s : State) → Good x s → (i : ℕ) (m : List ℕ) → Among m (fit_messages x s cs i) → Has i m cs
  unfolding fit_messages Has
  among_has [] s good i m among = absurd (not-suc-le-zero among.1)
  among_has (c ∷ cs) s good i m among =
      ⊎_elim (λ own. inl (sym (fit_ours s good i c) ∙ own.0, own.1))
      (λ rest. inr (among_has cs (after x s c) (stepped x s good c).good i m rest))
      (front_or_rest (fit_for x s i c) m (bytes x c) (fit_messages x (after x s c) cs i) among)

  has_among : (cs : List Call) (s : State) → Good x s → (i : ℕ) (m : List ℕ) → Has i m cs → Among m (fit_messages x s cs i)
  unfolding fit_messages Has
  has_among [] s good i m has = absurd has
  has_among (c ∷ cs) s good i m has =
      from_front_or_rest (fit_for x s i c) m (bytes x c) (fit_messages x (after x s c) cs i)
      (⊎_elim (λ own. inl (fit_ours s good i c ∙ own.0, own.1))
      (λ rest. inr (has_among cs (after x s c) (stepped x s good c).good i m rest))
      has)

-- ---- what two lists of calls leave

module _ (x : Task) (s : State) (cs ds : List Call) where
  -- from a good state on: the hosts with a fit message and the first of each decide
  final : Good x s → ((i : ℕ) → has_fit x s ds i ≡ has_fit x s cs i) → ((i : ℕ) → has_fit x s cs i ≡ true → first_fit x s ds i ≡ first_fit x s cs i)
      → run x s ds ≡ run x s cs
  unfolding store_length
  final good has same =
      let c = ran x cs s good in
      let d = ran x ds s good in
      let size = answer_length x.job in
      let heard : (run x s ds).heard ≡ (run x s cs).heard
      = bits_alike x.job.hosts _ _ d.good.none_above c.good.none_above
      (λ i. d.heard i ∙ ap (λ (t : Bool). is_heard s.heard i || t) (has i) ∙ sym (c.heard i)) in
      let block : (i : ℕ) → block_at size (run x s ds).store i ≡ block_at size (run x s cs).store i
      = λ i.
      ⊎_elim (λ (h : is_heard s.heard i ≡ true). d.kept i h ∙ sym (c.kept i h))
      (λ (h : is_heard s.heard i ≡ false).
      ⊎_elim (λ (t : has_fit x s cs i ≡ true). d.new i h (has i ∙ t) ∙ ap elements (same i t) ∙ sym (c.new i h t))
      (λ (f : has_fit x s cs i ≡ false). d.other i (has i ∙ f) ∙ sym (c.other i f))
      (by_test (has_fit x s cs i)))
      (by_test (is_heard s.heard i)) in
      let store : (run x s ds).store ≡ (run x s cs).store
      = blocks_alike size _ _ x.job.hosts d.good.room c.good.room (λ i l. block i) in
      λ k. record { heard = heard k; store = store k }

  -- in a state that is not good, nothing changes
  from_any : (Good x s → run x s ds ≡ run x s cs) → run x s ds ≡ run x s cs
  from_any same = ⊎_elim same (λ still. run_still x s still ds ∙ sym (run_still x s still cs)) (good_or_still x s)

  module _ (agree : Agree x s cs) where
    alike : Good x s → ((i : ℕ) (m : List ℕ) → Among m (fit_messages x s cs i) ↔ Among m (fit_messages x s ds i)) → run x s ds ≡ run x s cs
    alike good listed =
        let there : (i : ℕ) → has_fit x s cs i ≡ true → has_fit x s ds i ≡ true
        = λ i t. among_fit x ds s i _ ((listed i (first_fit x s cs i)).0 (first_among x cs s i t)) in
        let back : (i : ℕ) → has_fit x s ds i ≡ true → has_fit x s cs i ≡ true
        = λ i t. among_fit x cs s i _ ((listed i (first_fit x s ds i)).1 (first_among x ds s i t)) in
        final good (λ i. tests_alike (has_fit x s ds i) (has_fit x s cs i) (back i) (there i)) (λ i t.
        let mine = first_among x cs s i t in
        let theirs = (listed i (first_fit x s ds i)).1 (first_among x ds s i (there i t)) in
        sym theirs.2 ∙ agree i theirs.0 mine.0 theirs.1 mine.1 ∙ mine.2)

    pub repeats : ((i : ℕ) (m : List ℕ) → Among m (fit_messages x s cs i) ↔ Among m (fit_messages x s ds i)) → run x s ds ≡ run x s cs
    repeats listed = from_any (λ good. alike good listed)

    pub any_order : Shuffled cs ds → run x s ds ≡ run x s cs
    any_order shuffled =
        from_any (λ good.
        alike good (λ i m. (
          (λ among. has_among x ds s good i m (has_shuffled x i m shuffled (among_has x cs s good i m among))),
          (λ among. has_among x cs s good i m (has_shuffled x i m (Permᴰ.symm shuffled) (among_has x ds s good i m among))),
        )))
