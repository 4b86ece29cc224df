-- What a drawing returns and leaves, by its tests.
--
--   draw_told      what it tells on paper: the first number that fits, or how many words are used
--   draw_unknown   the number is no modulus number
--   found          what the search for usable words returns: how many words are used, or 27
--   found_few, found_enough    too few words are usable, or enough
--   found_used, found_refused  what the search tells by what it returns
--   found_is       a drawing returns what the search does
--   left_few, left_done        what it leaves in the output
use mathlib.Core.Path.{◌≡◌, refl, sym, ap, ◌∙◌}
use mathlib.Core.Bool.{true}
use mathlib.Core.Logic.{⊎_elim}
use mathlib.Core.List.{List, [], ◌∷◌}
use Prim.Native.Nat.{ℕ, zero, suc, ◌<◌, ◌≤◌}
use native.Mathlib.Nat.{suc-ne-zero}
use lib.Dec.{ltb}
use lib.ListN.{length}
use borrow.Author.Tests.{lt-ltb, le-ltb, ltb-false}
use Rattle.std.specs.Prelude.{Result, Ok, Err}
use Rattle.algebra.proofs.Orders.{le_or_lt}
use Rattle.refusal.specs.declared.Refusal.{Refusal}
use Rattle.refusal.specs.Numbers.{number, refusal_of, sheet}
use Rattle.refusal.specs.Chain.{first, outcome, answered, unless_refused, done, refused}
use Rattle.refusal.proofs.Chains.{first_hit, first_miss, first_clear, first_numbered, numbered}
use Rattle.refusal.proofs.Answered.{answered_hit, answered_miss, answered_none, is_done}
use Rattle.field.specs.Modulus.{modulus, no_modulus}
use Rattle.field.proofs.Moduli.{Known}
use Rattle.masks.specs.Drawing.{kept, drawn, used, draw_tests, draw_outcome, told, masks_after}

pub draw_told : (k : ℕ) (words : List ℕ) (n : ℕ) → told (draw_outcome k words n) ≡ outcome (first (draw_tests k words n)) (done (used (modulus k) n words ∷ [])) refused
unfolding draw_outcome draw_tests answered outcome numbered refusal_of sheet
draw_told k words n = go (first (draw_tests k words n)) (first_numbered (draw_tests k words n) tt)
  where
    go : (m : ℕ) → ((m ≡ 0 → ⊥) → number (refusal_of m) ≡ m)
        → told (outcome m (Ok (used (modulus k) n words)) (λ j. Err (refusal_of j))) ≡ outcome m (done (used (modulus k) n words ∷ [])) refused
    go zero is = refl
    go (suc m) is = ap refused (is (suc-ne-zero m))

pub draw_unknown : (k : ℕ) (words out : List ℕ) → no_modulus k ≡ true → (Err Refusal.Modulus ≡ draw_outcome k words (length out)) × (out ≡ masks_after k words out)
unfolding draw_outcome masks_after draw_tests unless_refused outcome refusal_of sheet
draw_unknown k words out e = (sym (answered_hit (no_modulus k) 0 _ _ e), rw (first_hit (no_modulus k) 1 ((ltb (length (kept (modulus k) words)) (length out), 27) ∷ []) e))

-- ---- the search

module _ (q n : ℕ) (words : List ℕ) where
  abbrev pub found : Result ℕ Refusal
  found = answered ((ltb (length (kept q words)) n, 27) ∷ []) (used q n words)

  pub found_few : length (kept q words) < n → Err Refusal.Words ≡ found
  unfolding refusal_of sheet
  found_few l = sym (answered_hit _ 26 _ _ (lt-ltb (length (kept q words)) n l))

  pub found_enough : n ≤ length (kept q words) → Ok (used q n words) ≡ found
  found_enough l = sym (answered_miss _ 27 _ _ (le-ltb (length (kept q words)) n l) ∙ answered_none _)

  pub found_used : {end : ℕ} → found ≡ Ok end → (n ≤ length (kept q words)) × (end ≡ used q n words)
  found_used {end} e = let done = is_done _ _ end (sym e) in (ltb-false _ _ (first_clear _ 26 _ done.0).0, done.1)

  pub found_refused : {r : Refusal} → found ≡ Err r → length (kept q words) < n
  found_refused {r} e = ⊎_elim (λ l. absurd (cc (found_enough l))) (λ l. l) (le_or_lt n (length (kept q words)))

-- ---- the call

module _ {k q : ℕ} (m : Known k q) (words : List ℕ) where
  -- the second test decides
  second : (n : ℕ) → first (draw_tests k words n) ≡ first ((ltb (length (kept q words)) n, 27) ∷ [])
  unfolding draw_tests
  second n = first_miss (no_modulus k) 1 _ m.is_number ∙ rw m.is

  pub found_is : (n : ℕ) → found q n words ≡ draw_outcome k words n
  unfolding draw_outcome draw_tests
  found_is n = sym (answered_miss (no_modulus k) 1 _ _ m.is_number ∙ rw m.is)

  module _ (out : List ℕ) where
    pub left_few : length (kept q words) < length out → out ≡ masks_after k words out
    unfolding masks_after unless_refused outcome first
    left_few l = rw (second (length out), lt-ltb _ _ l)

    pub left_done : length out ≤ length (kept q words) → drawn q (length out) words ≡ masks_after k words out
    unfolding masks_after unless_refused outcome first
    left_done l = rw (second (length out), le-ltb _ _ l, m.is)
