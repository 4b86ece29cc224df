-- The calls of the sheet that demand 1 does not name, judged in the same way (01, "Signed reading" and "The job").
--
--   OtherCalls == signed reading and its way back are judged by their tests, and tell their value; a modulus number names its
--                 modulus, or is refused with 1
use Rattle.std.specs.Prelude.{◌≡◌, List, [], ◌∷◌, ℕ, ℤ}
use Rattle.refusal.specs.Chain.{Test, answered, number_in}
use Rattle.field.specs.Modulus.{modulus, no_modulus, named, modulus_in, told}
use Rattle.field_signed.specs.Signed.{signed, element, signed_tests, element_tests, signed_outcome, element_outcome, signed_told, element_told}
use Rattle.promise.specs.Demand1.{Tells}

pub record OtherCalls : Type 0 where
  pub signed_reading : (n v : ℕ) → Tells (signed_tests n v) (signed_told (signed_outcome n v)) (signed (modulus n) v ∷ [])
  pub way_back : (n : ℕ) (z : ℤ) → Tells (element_tests n z) (element_told (element_outcome n z)) (element (modulus n) z ∷ [])
  pub naming : (n : ℕ) → let tests : List Test = (no_modulus n, 1) ∷ [] in
      Tells tests (told (named n)) (n ∷ []) × (number_in (answered tests (modulus_in (named n))) ≡ (told (named n)).number)
