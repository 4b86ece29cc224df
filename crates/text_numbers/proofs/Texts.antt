-- Laws of texts.
--
--   same_byte      within a list, what is taken to stand past its end does not matter
--   closed_byte    a text and its last line feed, from an offset on
use mathlib.Core.Path.{◌≡◌, refl}
use mathlib.Core.List.{List, [], ◌∷◌}
use Prim.Native.Nat.{ℕ, zero, suc, ◌<◌, ◌≤◌}
use native.Mathlib.Omega.{arith}
use lib.ListN.{length, get_or, drop}
use Rattle.text_numbers.specs.Numbers.{closed}

pub same_byte : (bs : List ℕ) (i : ℕ) → i < length bs → get_or bs i 0 ≡ get_or bs i 10
same_byte [] i h = let no : ⊥ = omega arith in absurd no
same_byte (b ∷ bs) zero h = refl
same_byte (b ∷ bs) (suc i) h = same_byte bs i (omega arith)

pub closed_byte : (text : List ℕ) (i : ℕ) → i ≤ length text → drop i (closed text) ≡ get_or text i 10 ∷ drop (suc i) (closed text)
unfolding closed
closed_byte [] zero h = refl
closed_byte [] (suc i) h = let no : ⊥ = omega arith in absurd no
closed_byte (b ∷ text) zero h = refl
closed_byte (b ∷ text) (suc i) h = closed_byte text i (omega arith)
