-- What signed reading and its way back promise (01, "Signed reading" and "What is turned down"), said of their outcomes on paper.
-- n is a modulus number and `modulus n` its q.
--
--   ThereAndBack n v == element v reads as a value in range, and the way back of that value is v
--   BackAndThere n z == the way back of the value z is an element, which reads as z
--   SignedReading    == each element goes there and back, each value in range back and there, and all else is refused
--   ExactReading     == signed reading of the table's element returns the exact entry of AB, where that is in range
use Rattle.std.specs.Prelude.{◌≡◌, true, false, [], ◌∷◌, ℕ, ◌*◌, ◌%◌, ◌<◌, ◌≤◌, ℤ}
use Rattle.algebra.specs.Sums.{sum}
use Rattle.refusal.specs.Chain.{first, done, refused}
use Rattle.field.specs.Modulus.{modulus, no_modulus}
use Rattle.field_signed.specs.Signed.{signed, in_range, element, Taking, taken, dot, Exact}
use Rattle.field_signed.specs.Signed.{signed_tests, element_tests, signed_outcome, element_outcome, signed_told, element_told}

pub record ThereAndBack (n v : ℕ) : Type 0 where
  pub reads : signed_told (signed_outcome n v) ≡ done (signed (modulus n) v ∷ [])
  pub within_range : in_range (modulus n) (signed (modulus n) v) ≡ true
  pub back : element_told (element_outcome n (signed (modulus n) v)) ≡ done (v ∷ [])

pub record BackAndThere (n : ℕ) (z : ℤ) : Type 0 where
  pub back : element_told (element_outcome n z) ≡ done (element (modulus n) z ∷ [])
  pub below : element (modulus n) z < modulus n
  pub reads : signed_told (signed_outcome n (element (modulus n) z)) ≡ done (z ∷ [])

pub record SignedReading : Type 0 where
  pub there_and_back : (n v : ℕ) → no_modulus n ≡ false → v < modulus n → ThereAndBack n v
  pub back_and_there : (n : ℕ) (z : ℤ) → no_modulus n ≡ false → in_range (modulus n) z ≡ true → BackAndThere n z
  -- "Signed reading. 1. 14."
  pub unknown : (n v : ℕ) → no_modulus n ≡ true → signed_told (signed_outcome n v) ≡ refused 1
  pub above : (n v : ℕ) → no_modulus n ≡ false → modulus n ≤ v → signed_told (signed_outcome n v) ≡ refused 14
  -- "The way back: 1; 25 outside the range."
  pub unknown_back : (n : ℕ) (z : ℤ) → no_modulus n ≡ true → element_told (element_outcome n z) ≡ refused 1
  pub outside : (n : ℕ) (z : ℤ) → no_modulus n ≡ false → in_range (modulus n) z ≡ false → element_told (element_outcome n z) ≡ refused 25
  -- so the number is the first that fits in the sheet's order
  pub number : (n v : ℕ) → (signed_told (signed_outcome n v)).number ≡ first (signed_tests n v)
  pub number_back : (n : ℕ) (z : ℤ) → (element_told (element_outcome n z)).number ≡ first (element_tests n z)

pub record ExactReading : Type 0 where
  pub exact : (q : ℕ) → 1 < q → Exact q
  -- no 14 can come of the call
  pub reads : (n : ℕ) → no_modulus n ≡ false → (how : Taking) (count : ℕ) (a b : ℕ → ℕ)
      → in_range (modulus n) (dot (taken (modulus n) how) count a b) ≡ true
      → signed_told (signed_outcome n (sum count (λ i. a i * b i) % modulus n)) ≡ done (dot (taken (modulus n) how) count a b ∷ [])
