-- Elements as signed whole numbers (01, "Signed reading").
--
--   half q              == (q - 1) / 2
--   signed q v          == the signed reading of element v: v where it is at most half q, else v - q
--   inRange q z         == z is in - half q .. half q
--   element q z         == the way back, for z in that range: z where it is not below 0, else q + z
--   signed_tests n v     == the refusals of signed reading at modulus number n, in the sheet's order
--   element_tests n z    == those of the way back
--   signed_outcome n v   == what signed reading returns
--   element_outcome n z  == what the way back returns
--   signed_told r        == what an outcome of signed reading is on paper: its number, 0 where it is a value, and that value
--   element_told r       == the same of the way back
--   Taking              == how the elements of A and B are taken: as they are, or all by their signed reading
--   taken q how v       == element v, so taken
--   dot ρ n a b         == the exact sum of ρ (a i) · ρ (b i) over i below n: an entry of AB, its elements taken by ρ
--   Exact q             == an exact entry in range is the signed reading of the table's element;
--                          one in 0 .. q - 1 is the element itself. Both hold for any numbers in A and B
use Rattle.std.specs.Prelude.{◌≡◌, Bool, true, not, cond, ◌&&◌, List, [], ◌∷◌, ℕ, zero, suc, ◌-◌, ◌*◌, ◌/◌, ◌%◌, ◌<◌, leb, ltb, ℤ, pos, negsuc, neg_ℤ, ◌+ℤ◌, ◌-ℤ◌, ◌*ℤ◌, Result, Ok, Err}
use Rattle.std.specs.Int.Signed.{le_z}
use Rattle.algebra.specs.Sums.{sum}
use Rattle.refusal.specs.declared.Refusal.{Refusal}
use Rattle.refusal.specs.Numbers.{number as refusal_number}
use Rattle.refusal.specs.Chain.{Test, answered, Told, done, refused}
use Rattle.field.specs.Modulus.{modulus, no_modulus}

unfoldable pub half : ℕ → ℕ
half q = (q - 1) / 2

unfoldable pub signed : ℕ → ℕ → ℤ
signed q v = cond (leb v (half q)) (pos v) (pos v -ℤ pos q)

unfoldable pub in_range : ℕ → ℤ → Bool
in_range q z = le_z (neg_ℤ (pos (half q))) z && le_z z (pos (half q))

-- negsuc n is - (n + 1)
unfoldable pub element : ℕ → ℤ → ℕ
element q (pos n) = n
element q (negsuc n) = q - suc n

unfoldable pub signed_tests : ℕ → ℕ → List Test
signed_tests number v = (no_modulus number, 1) ∷ (not (ltb v (modulus number)), 14) ∷ []

unfoldable pub element_tests : ℕ → ℤ → List Test
element_tests number z = (no_modulus number, 1) ∷ (not (in_range (modulus number) z), 25) ∷ []

unfoldable pub signed_outcome : ℕ → ℕ → Result ℤ Refusal
signed_outcome number v = answered (signed_tests number v) (signed (modulus number) v)

unfoldable pub element_outcome : ℕ → ℤ → Result ℕ Refusal
element_outcome number z = answered (element_tests number z) (element (modulus number) z)

unfoldable pub signed_told : Result ℤ Refusal → Told ℤ
signed_told (Ok z) = done (z ∷ [])
signed_told (Err r) = refused (refusal_number r)

unfoldable pub element_told : Result ℕ Refusal → Told ℕ
element_told (Ok v) = done (v ∷ [])
element_told (Err r) = refused (refusal_number r)

pub data Taking : Type 0 where
  as-they-are by-reading : Taking

unfoldable pub taken : ℕ → Taking → ℕ → ℤ
taken q as-they-are v = pos v
taken q by-reading v = signed q v

unfoldable pub dot : (ℕ → ℤ) → ℕ → (ℕ → ℕ) → (ℕ → ℕ) → ℤ
dot ρ zero a b = pos 0
dot ρ (suc n) a b = dot ρ n a b +ℤ ρ (a n) *ℤ ρ (b n)

pub record Exact (q : ℕ) : Type 0 where
  pub reads : (how : Taking) (n : ℕ) (a b : ℕ → ℕ) → in_range q (dot (taken q how) n a b) ≡ true
      → signed q (sum n (λ i. a i * b i) % q) ≡ dot (taken q how) n a b
  pub stands : (how : Taking) (n : ℕ) (a b : ℕ → ℕ) (k : ℕ) → k < q → dot (taken q how) n a b ≡ pos k
      → sum n (λ i. a i * b i) % q ≡ k
