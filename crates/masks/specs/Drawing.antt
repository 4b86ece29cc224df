-- Masks drawn from random words (02, U3): how elements below q come from words of 32 bits.
--
--   limit q               == the largest multiple of q that is at most 2^32
--   usable q w            == the word w is below it; any other is skipped
--   kept q words          == the remainders by q of the usable words, in their order
--   drawn q n words       == the first n of them: the masks that the words give
--   used q n words        == how many words that takes, skipped ones counted: up to and including the one that fills the last
--                            element; 0 where no element is wanted
--   draw_tests k words n   == the refusals of a drawing of n elements at modulus number k, in the sheet's order
--   draw_outcome k words n == what it returns
--   told r                == what an outcome is on paper: its number, 0 where masks are drawn, and then how many words are used
--   masks_after k words out == what the output then holds
use Rattle.std.specs.Prelude.{Bool, cond, List, [], ◌∷◌, ℕ, zero, suc, ◌*◌, ◌/◌, ◌%◌, ◌^◌, ltb, length, take}
use Rattle.std.specs.Prelude.{Result, Ok, Err}
use Rattle.refusal.specs.declared.Refusal.{Refusal}
use Rattle.refusal.specs.Numbers.{number}
use Rattle.refusal.specs.Chain.{Test, answered, unless_refused, Told, done, refused}
use Rattle.field.specs.Modulus.{modulus, no_modulus}

unfoldable pub limit : ℕ → ℕ
limit q = 2 ^ 32 / q * q

unfoldable pub usable : ℕ → ℕ → Bool
usable q w = ltb w (limit q)

unfoldable pub kept : ℕ → List ℕ → List ℕ
kept q [] = []
kept q (w ∷ words) = let rest = kept q words in cond (usable q w) (w % q ∷ rest) rest

unfoldable pub drawn : ℕ → ℕ → List ℕ → List ℕ
drawn q n words = take n (kept q words)

unfoldable pub used : ℕ → ℕ → List ℕ → ℕ
used q zero words = 0
used q (suc n) [] = 0
used q (suc n) (w ∷ words) =
    let filled = used q n words in
    let skipped = used q (suc n) words in
    suc (cond (usable q w) filled skipped)

unfoldable pub draw_tests : ℕ → List ℕ → ℕ → List Test
draw_tests k words n = (no_modulus k, 1) ∷ (ltb (length (kept (modulus k) words)) n, 27) ∷ []

unfoldable pub draw_outcome : ℕ → List ℕ → ℕ → Result ℕ Refusal
draw_outcome k words n = answered (draw_tests k words n) (used (modulus k) n words)

abbrev pub told : Result ℕ Refusal → Told ℕ
told (Ok n) = done (n ∷ [])
told (Err r) = refused (number r)

unfoldable pub masks_after : ℕ → List ℕ → List ℕ → List ℕ
masks_after k words out = unless_refused (draw_tests k words (length out)) (drawn (modulus k) (length out) words) out
