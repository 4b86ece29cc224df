-- Which words are used, and what they fill.
--
--   used_few   not more words than there are
--   front_is   the words that are used give the masks
--   filled     the statement of specs/Filled.antt
use mathlib.Core.Path.{◌≡◌, refl, ap, ◌∙◌, subst}
use mathlib.Core.Bool.{Bool, true, false}
use mathlib.Core.List.{List, [], ◌∷◌}
use Prim.Native.Nat.{ℕ, zero, suc, ◌-◌, ◌%◌, ◌<◌, ◌≤◌}
use native.Mathlib.Nat.{mod-lt, not-suc-le-zero}
use native.Mathlib.Omega.{arith}
use lib.ListN.{length, get_or, take}
use lib.Seq.{length-take-le}
use Rattle.algebra.specs.Lists.{AllBelow}
use Rattle.algebra.proofs.Lists.{below_part}
use Rattle.masks.specs.Drawing.{usable, kept, drawn, used}
use Rattle.masks.specs.Filled.{Filled}
use Rattle.masks.proofs.Steps.{kept_usable, kept_skipped, used_usable, used_skipped}

module _ (q : ℕ) where
  used_none : (words : List ℕ) → used q 0 words ≡ 0
  unfolding used
  used_none words = refl

  pub used_few : (n : ℕ) (words : List ℕ) → used q n words ≤ length words
  unfolding used
  used_few zero words = omega arith
  used_few (suc n) [] = omega arith
  used_few (suc n) (w ∷ words) = go (usable q w) refl (used_few n words) (used_few (suc n) words)
    where
      go : (u : Bool) → usable q w ≡ u → used q n words ≤ length words → used q (suc n) words ≤ length words
          → used q (suc n) (w ∷ words) ≤ suc (length words)
      go true e f s = omega (arith, used_usable q w words n e)
      go false e f s = omega (arith, used_skipped q w words n e)

  -- one word more, which is usable, or which is skipped
  front_more : (n w : ℕ) (words : List ℕ) (u : Bool) → usable q w ≡ u → suc n ≤ length (kept q (w ∷ words))
      → (n ≤ length (kept q words) → kept q (take (used q n words) words) ≡ drawn q n words)
      → (suc n ≤ length (kept q words) → kept q (take (used q (suc n) words) words) ≡ drawn q (suc n) words)
      → kept q (take (used q (suc n) (w ∷ words)) (w ∷ words)) ≡ drawn q (suc n) (w ∷ words)
  unfolding drawn
  front_more n w words true e h filled skipped =
      let more = kept_usable q w words e in
      let size : suc n ≤ suc (length (kept q words)) = subst (λ (xs : List ℕ). suc n ≤ length xs) more h in
      rw (used_usable q w words n e, more, kept_usable q w (take (used q n words) words) e, filled (omega arith))
  front_more n w words false e h filled skipped =
      let more = kept_skipped q w words e in
      rw (used_skipped q w words n e, more, kept_skipped q w (take (used q (suc n) words) words) e)
      (skipped (subst (λ (xs : List ℕ). suc n ≤ length xs) more h))

  pub front_is : (n : ℕ) (words : List ℕ) → n ≤ length (kept q words) → kept q (take (used q n words) words) ≡ drawn q n words
  unfolding used drawn kept
  front_is zero words h = refl
  front_is (suc n) [] h = absurd (not-suc-le-zero h)
  front_is (suc n) (w ∷ words) h = front_more n w words (usable q w) refl h (front_is n words) (front_is (suc n) words)

  -- the last word that is used: there is one, and it is usable
  abbrev Last : ℕ → List ℕ → Type 0
  Last n words = (1 ≤ used q n words) × (usable q (get_or words (used q n words - 1) 0) ≡ true)

  last_is : (n : ℕ) (words : List ℕ) → suc n ≤ length (kept q words) → Last (suc n) words
  unfolding kept
  last_is n [] h = absurd (not-suc-le-zero h)
  last_is n (w ∷ words) h = go (usable q w) refl n h (λ k l. last_is k words l)
    where
      -- the last word of the others is the last of all
      later : (n k : ℕ) → Last k words → used q (suc n) (w ∷ words) ≡ suc (used q k words) → Last (suc n) (w ∷ words)
      later n k l e =
          let back : suc (used q k words) - 1 ≡ suc (used q k words - 1) = omega (arith, l.0) in
          rw (e, back) (omega arith, l.1)

      go : (u : Bool) → usable q w ≡ u → (n : ℕ) → suc n ≤ length (kept q (w ∷ words)) → ((k : ℕ) → suc k ≤ length (kept q words) → Last (suc k) words) → Last (suc n) (w ∷ words)
      go true e zero h f = rw (used_usable q w words 0 e, used_none words) (omega arith, e)
      go true e (suc n) h f =
          let size : suc (suc n) ≤ suc (length (kept q words)) = subst (λ (xs : List ℕ). suc (suc n) ≤ length xs) (kept_usable q w words e) h in
          later (suc n) (suc n) (f n (omega arith)) (used_usable q w words (suc n) e)
      go false e n h f =
          later n (suc n) (f n (subst (λ (xs : List ℕ). suc n ≤ length xs) (kept_skipped q w words e) h)) (used_skipped q w words n e)

  kept_below : 0 < q → (words : List ℕ) → AllBelow q (kept q words)
  unfolding kept
  kept_below pos [] = λ i l. absurd (not-suc-le-zero l)
  kept_below pos (w ∷ words) = go (usable q w) refl (kept_below pos words)
    where
      go : (u : Bool) → usable q w ≡ u → AllBelow q (kept q words) → AllBelow q (kept q (w ∷ words))
      go true e f = rw (kept_usable q w words e) (each f)
        where
          each : AllBelow q (kept q words) → AllBelow q (w % q ∷ kept q words)
          each f zero l = mod-lt w pos
          each f (suc i) l = f i (omega arith)
      go false e f = rw (kept_skipped q w words e) f

  pub filled : 0 < q → (n : ℕ) (words : List ℕ) → Filled q n words
  unfolding drawn
  filled pos n words = record {
    none = λ e. ap (λ (k : ℕ). used q k words) e ∙ used_none words;
    last = λ some h. last_of n some h;
    front = front_is n words;
    masks = λ h. (length-take-le n (kept q words) h, below_part q (kept q words) (kept_below pos words) n 0);
  }
    where
      last_of : (n : ℕ) → 1 ≤ n → n ≤ length (kept q words)
          → (1 ≤ used q n words) × (used q n words ≤ length words) × (usable q (get_or words (used q n words - 1) 0) ≡ true)
      last_of zero some h = absurd (not-suc-le-zero some)
      last_of (suc n) some h = let l = last_is n words h in (l.0, used_few (suc n) words, l.1)
