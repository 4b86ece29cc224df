-- Values computed from the definitions: an edit of a definition must change one of them.
--
--   ends      the last elements of 13 and of 2147483647 that read as themselves, and the ones after them
--   ranges    which of -1073741824, -1073741823, 1073741823 and 1073741824 the way back takes at 2147483647: 1 for yes
--   numbers   what signed reading tells at modulus number 4 of the element q - 1 and of q, and at modulus number 5
use mathlib.Core.Path.{◌≡◌, refl}
use mathlib.Core.Bool.{cond}
use mathlib.Core.List.{[], ◌∷◌, map}
use Prim.Native.Nat.{ℕ}
use lib.IntN.{pos, negsuc}
use Rattle.refusal.specs.Numbers.{refusal_of, sheet}
use Rattle.refusal.specs.Chain.{first, outcome, answered, outside}
use Rattle.field.specs.Modulus.{moduli, modulus, no_modulus}
use Rattle.field_signed.specs.Signed.{half, signed, in_range, signed_tests, signed_outcome, signed_told}

ends : signed 13 6 ∷ signed 13 7 ∷ signed 2147483647 1073741823 ∷ signed 2147483647 1073741824 ∷ []
    ≡ pos 6 ∷ negsuc 5 ∷ pos 1073741823 ∷ negsuc 1073741822 ∷ []
unfolding half signed
ends = refl

ranges : map {B = ℕ} (λ z. cond (in_range 2147483647 z) 1 0) (negsuc 1073741823 ∷ negsuc 1073741822 ∷ pos 1073741823 ∷ pos 1073741824 ∷ [])
    ≡ 0 ∷ 1 ∷ 1 ∷ 0 ∷ []
unfolding half in_range
ranges = refl

numbers : map (λ r. (signed_told r).number) (signed_outcome 4 2147483646 ∷ signed_outcome 4 2147483647 ∷ signed_outcome 5 0 ∷ []) ≡ 0 ∷ 14 ∷ 1 ∷ []
unfolding signed signed_tests signed_outcome signed_told first outcome answered outside refusal_of sheet moduli modulus no_modulus
numbers = refl
