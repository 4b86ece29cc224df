-- Words taken one by one, and some at once.
--
--   kept_usable, kept_skipped   one word more, which is usable, and which is skipped
--   used_usable, used_skipped   the same, of how many are used
--   kept_few                    not more words are usable than there are
--   kept_append, kept_part      the usable ones of two parts: those of the first, and then those of the second
--   kept_full                   where all words are usable, the first one is
--   used_part                   m words are used, where no fewer elements are wanted, and then as many as the others are for what is left
use mathlib.Core.Path.{◌≡◌, refl, sym, ap, ◌∙◌}
use mathlib.Core.Bool.{Bool, true, false, cond}
use mathlib.Core.Logic.{⊎_elim}
use mathlib.Core.List.{List, [], ◌∷◌, ◌++◌}
use Prim.Native.Nat.{ℕ, zero, suc, ◌+◌, ◌-◌, ◌%◌, ◌≤◌}
use native.Mathlib.Nat.{not-suc-le-zero}
use native.Mathlib.Omega.{arith}
use lib.ListN.{length, take, drop}
use Rattle.std.proofs.lemmas.List.{take-append-drop}
use Rattle.algebra.proofs.Tests.{by_test}
use Rattle.masks.specs.Drawing.{usable, kept, used}

module _ (q w : ℕ) (words : List ℕ) where
  pub kept_usable : usable q w ≡ true → kept q (w ∷ words) ≡ w % q ∷ kept q words
  unfolding kept
  kept_usable e = ap (λ (t : Bool). cond t (w % q ∷ kept q words) (kept q words)) e

  pub kept_skipped : usable q w ≡ false → kept q (w ∷ words) ≡ kept q words
  unfolding kept
  kept_skipped e = ap (λ (t : Bool). cond t (w % q ∷ kept q words) (kept q words)) e

  pub used_usable : (n : ℕ) → usable q w ≡ true → used q (suc n) (w ∷ words) ≡ suc (used q n words)
  unfolding used
  used_usable n e = ap (λ (t : Bool). suc (cond t (used q n words) (used q (suc n) words))) e

  pub used_skipped : (n : ℕ) → usable q w ≡ false → used q (suc n) (w ∷ words) ≡ suc (used q (suc n) words)
  unfolding used
  used_skipped n e = ap (λ (t : Bool). suc (cond t (used q n words) (used q (suc n) words))) e

module _ (q : ℕ) where
  pub kept_few : (words : List ℕ) → length (kept q words) ≤ length words
  unfolding kept
  kept_few [] = omega arith
  kept_few (w ∷ words) = go (usable q w) refl (kept_few words)
    where
      go : (u : Bool) → usable q w ≡ u → length (kept q words) ≤ length words → length (kept q (w ∷ words)) ≤ suc (length words)
      go true e l = rw (kept_usable q w words e) (omega arith)
      go false e l = rw (kept_skipped q w words e) (omega arith)

  -- the usable ones of two lists of words, one after the other
  pub kept_append : (part rest : List ℕ) → kept q (part ++ rest) ≡ kept q part ++ kept q rest
  unfolding kept
  kept_append [] rest = refl
  kept_append (w ∷ part) rest = go (usable q w) (kept_append part rest)
    where
      go : (u : Bool) → kept q (part ++ rest) ≡ kept q part ++ kept q rest
          → cond u (w % q ∷ kept q (part ++ rest)) (kept q (part ++ rest)) ≡ cond u (w % q ∷ kept q part) (kept q part) ++ kept q rest
      go true h = ap (λ (xs : List ℕ). w % q ∷ xs) h
      go false h = h

  pub kept_part : (m : ℕ) (words : List ℕ) → kept q words ≡ kept q (take m words) ++ kept q (drop m words)
  kept_part m words = ap (kept q) (sym (take-append-drop m words)) ∙ kept_append (take m words) (drop m words)

  pub kept_full : (w : ℕ) (words : List ℕ) → length (kept q (w ∷ words)) ≡ suc (length words) → usable q w ≡ true
  kept_full w words e = ⊎_elim (λ u. u) (λ u. absurd (never u)) (by_test (usable q w))
    where
      never : usable q w ≡ false → ⊥
      never u =
          let fewer : length (kept q words) ≡ suc (length words) = sym (ap length (kept_skipped q w words u)) ∙ e in
          omega (arith, kept_few words)

  used_more : (m n w : ℕ) (words part rest : List ℕ) (u : Bool) → usable q w ≡ u
      → used q n words ≡ m + used q (n - length (kept q part)) rest
      → used q (suc n) words ≡ m + used q (suc n - length (kept q part)) rest
      → used q (suc n) (w ∷ words) ≡ suc m + used q (suc n - length (kept q (w ∷ part))) rest
  used_more m n w words part rest true e filled skipped =
      let less : suc n - suc (length (kept q part)) ≡ n - length (kept q part) = omega arith in
      rw (used_usable q w words n e, kept_usable q w part e, less) (omega (arith, filled))
  used_more m n w words part rest false e filled skipped =
      rw (used_skipped q w words n e, kept_skipped q w part e) (omega (arith, skipped))

  pub used_part : (m n : ℕ) (words : List ℕ) → m ≤ n → m ≤ length words
      → used q n words ≡ m + used q (n - length (kept q (take m words))) (drop m words)
  unfolding kept
  used_part zero n words h l = let all : n - 0 ≡ n = omega arith in rw all (omega arith)
  used_part (suc m) zero words h l = absurd (not-suc-le-zero h)
  used_part (suc m) (suc n) [] h l = absurd (not-suc-le-zero l)
  used_part (suc m) (suc n) (w ∷ words) h l =
      used_more m n w words (take m words) (drop m words) (usable q w) refl (used_part m n words (omega arith) (omega arith)) (used_part m (suc n) words (omega arith) (omega arith))
