-- Laws of tokens and words in a text.
--
--   first_here, first_later    the byte at i is the first that is looked for, or it is not
--   first_none                 no byte is
--   begins_not                 in a comment and in a token nothing begins
--   end_here, end_later        the byte at i is the first that sets apart, or it is not
--   end_none                   no byte does
--   mark_cut                   a text without the mark of UTF-8
use mathlib.Core.Path.{◌≡◌, refl, sym, ◌∙◌}
use mathlib.Core.Bool.{Bool, true, false}
use mathlib.Core.List.{List, [], ◌∷◌}
use Prim.Native.Nat.{ℕ, suc, ◌+◌, ◌<◌}
use Rattle.std.specs.Prelude.{◌&&◌, eqb, take, MatchOption, unwrap_or, Option, Some, None}
use Rattle.std.specs.Borrow.{Bor}
use lib.Pointwise.{pointwise}
use Rattle.std.proofs.lemmas.Grind.{common_steps}
use native.Mathlib.Numerals.{add-one}
use native.Mathlib.Omega.{arith}
use lib.ListN.{length, get_or, drop, drop_of_length-le}
use lib.Seq.{drop-cons}
use Rattle.text_numbers.specs.declared.Before.{Before}
use Rattle.text_numbers.specs.declared.Before.TheVariants.{Comment, Token, Gap}
use Rattle.text_numbers.specs.Numbers.{sets_apart}
use Rattle.text_numbers.specs.Words.{next, begins, first_from, token_end, byte_at, mark_length}

module _ (words : Bool) (before : Before) (bs : List ℕ) (i n : ℕ) (so_far : n ≡ i + first_from words before (drop i bs)) where
  pub first_here : i < length bs → begins words before (get_or bs i 0) ≡ true → i ≡ n
  unfolding first_from
  first_here h e =
      let none : first_from words before (drop i bs) ≡ 0 = rw (drop-cons bs i 0 h, e) in
      omega arith

  pub first_later : i < length bs → begins words before (get_or bs i 0) ≡ false
      → n ≡ i + 1 + first_from words (next before (get_or bs i 0)) (drop (i + 1) bs)
  unfolding first_from
  first_later h e =
      let one : first_from words before (drop i bs) ≡ suc (first_from words (next before (get_or bs i 0)) (drop (suc i) bs)) = rw (drop-cons bs i 0 h, e) in
      rw (add-one i) (omega arith)

  pub first_none : i ≡ length bs → i ≡ n
  unfolding first_from
  first_none e =
      let none : first_from words before (drop i bs) ≡ 0 = rw (drop_of_length-le bs {i = i} (omega arith)) in
      omega arith

pub begins_not : (words : Bool) (before : Before) (b : ℕ) → (before ≡ Gap → ⊥) → begins words before b ≡ false
unfolding begins
begins_not words Comment b h = refl
begins_not words Token b h = refl
begins_not words Gap b h = absurd (h refl)

module _ (bs : List ℕ) (i n : ℕ) (so_far : n ≡ i + token_end (drop i bs)) where
  pub end_here : i < length bs → sets_apart (get_or bs i 0) ≡ true → i ≡ n
  unfolding token_end
  end_here h e =
      let none : token_end (drop i bs) ≡ 0 = rw (drop-cons bs i 0 h, e) in
      omega arith

  pub end_later : i < length bs → sets_apart (get_or bs i 0) ≡ false → n ≡ i + 1 + token_end (drop (i + 1) bs)
  unfolding token_end
  end_later h e =
      let one : token_end (drop i bs) ≡ suc (token_end (drop (suc i) bs)) = rw (drop-cons bs i 0 h, e) in
      rw (add-one i) (omega arith)

  pub end_none : i ≡ length bs → i ≡ n
  unfolding token_end
  end_none e =
      let none : token_end (drop i bs) ≡ 0 = rw (drop_of_length-le bs {i = i} (omega arith)) in
      omega arith

mark_test : (text : List ℕ)
    → pointwise eqb (take 3 text) (239 ∷ 187 ∷ 191 ∷ []) ≡ (eqb (byte_at text 0) 239 && eqb (byte_at text 1) 187 && eqb (byte_at text 2) 191)
mark_test [] = refl
mark_test (a ∷ []) = grind (arith, common_steps)
mark_test (a ∷ b ∷ []) = grind (arith, common_steps)
mark_test (a ∷ b ∷ c ∷ text) = grind (arith, common_steps)

pub mark_cut : (text : Bor (List ℕ)) (past : Option (Bor (List ℕ)))
    → MatchOption past (pointwise eqb (take 3 text.now) (239 ∷ 187 ∷ 191 ∷ []) ≡ false)
    (λ x. (pointwise eqb (take 3 text.now) (239 ∷ 187 ∷ 191 ∷ []) ≡ true) × (x.now ≡ drop 3 text.now) × (length x.now + 3 ≡ length text.now))
    → (unwrap_or past text).now ≡ drop (mark_length text.now) text.now
unfolding mark_length
mark_cut text None h = rw (sym (mark_test text.now) ∙ h)
mark_cut text (Some x) h = rw (sym (mark_test text.now) ∙ h.0) h.1
