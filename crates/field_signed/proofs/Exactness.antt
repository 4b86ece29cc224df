-- Whole numbers modulo q, and that signed reading is exact. The modulus is p + 1, so that - 1 is p.
--
--   residue p z       a number that leaves what z leaves
--   residue_sum       a sum leaves the sum of what its parts leave
--   residue_product   and a product the product
--   residue_taken     an element leaves itself, however it is taken
--   residue_dot       an exact entry leaves what the table's element is
--   residue_element   a whole number in range leaves its element
--   exact             so signed reading is exact, for any q above 1
--   exact_reading     and so is the call: the statement of specs/Readings.antt
use mathlib.Core.Path.{◌≡◌, ap, ◌∙◌}
use mathlib.Core.Bool.{Bool, true, false, cond}
use mathlib.Core.List.{[], ◌∷◌}
use mathlib.Core.Logic.{⊎_elim}
use Prim.Native.Nat.{ℕ, zero, suc, ◌+◌, ◌-◌, ◌*◌, ◌%◌, ◌<◌, ◌≤◌}
use native.Mathlib.Nat.{not-suc-le-zero, mod-lt, mod-eq_of_lt}
use native.Mathlib.Omega.{arith}
use lib.Dec.{leb, ltb}
use lib.IntN.{ℤ, pos, negsuc, neg_ℤ, sub_ℕ, ◌+ℤ◌, ◌-ℤ◌, ◌*ℤ◌}
use borrow.Author.Tests.{lt-ltb, le-ltb}
use Rattle.algebra.specs.Sums.{sum}
use Rattle.algebra.specs.Modular.{⟨◌⟩◌≈◌}
use Rattle.algebra.proofs.Orders.{le_or_lt}
use Rattle.algebra.proofs.Modular.{≈_refl, ≈_sym, ≈_trans, ≈_of_eq, ≈_mod, ≈_add, ≈_mul, ≈_by, ≈_multiple, ≈_exact}
use Rattle.refusal.specs.Chain.{done}
use Rattle.field.specs.Modulus.{modulus}
use Rattle.field.proofs.Moduli.{known_number}
use Rattle.field_signed.specs.Signed.{half, signed, in_range, element, Taking, as-they-are, by-reading, taken, dot, Exact, signed_told}
use Rattle.field_signed.specs.Readings.{ExactReading}
use Rattle.field_signed.proofs.Readings.{in_neg, element_below, signed_element}
use Rattle.field_signed.proofs.Outcomes.{signed_value}

unfoldable pub residue : ℕ → ℤ → ℕ
residue p (pos n) = n
residue p (negsuc n) = p * suc n

-- p · p leaves 1
square : (p n : ℕ) → ⟨ suc p ⟩ p * (p * n) ≈ n
square p n = ≈_by (≈_trans (≈_multiple {q = suc p} (p * n)) (≈_sym (≈_multiple n))) (omega arith)

residue_neg : (p : ℕ) (z : ℤ) → ⟨ suc p ⟩ residue p (neg_ℤ z) ≈ p * residue p z
unfolding residue
residue_neg p (pos zero) = ≈_of_eq (omega arith)
residue_neg p (pos (suc n)) = ≈_refl (p * suc n)
residue_neg p (negsuc n) = ≈_sym (square p (suc n))

-- a - b
residue_sub : (p a b : ℕ) → ⟨ suc p ⟩ residue p (sub_ℕ a b) ≈ a + p * b
unfolding residue
residue_sub p a b =
    ⊎_elim (λ (l : b ≤ a). ≈_trans (case (le-ltb a b l)) (≈_by (≈_sym (≈_multiple {q = suc p} b)) (omega arith)))
    (λ (l : a < b).
    let whole : suc (b - suc a) + a ≡ b = omega arith in
    ≈_trans (case (lt-ltb a b l)) (≈_by (≈_sym (≈_multiple {q = suc p} a)) (omega (arith, ap (λ (k : ℕ). p * k) whole))))
    (le_or_lt b a)
  where
    case : {t : Bool} → ltb a b ≡ t → ⟨ suc p ⟩ residue p (sub_ℕ a b) ≈ residue p (cond t (negsuc (b - suc a)) (pos (a - b)))
    case e = ≈_of_eq (ap (λ (t : Bool). residue p (cond t (negsuc (b - suc a)) (pos (a - b)))) e)

pub residue_sum : (p : ℕ) (x y : ℤ) → ⟨ suc p ⟩ residue p (x +ℤ y) ≈ residue p x + residue p y
unfolding residue
residue_sum p (pos a) (pos b) = ≈_refl (a + b)
residue_sum p (pos a) (negsuc b) = residue_sub p a (suc b)
residue_sum p (negsuc a) (pos b) = ≈_trans (residue_sub p b (suc a)) (≈_of_eq (omega arith))
residue_sum p (negsuc a) (negsuc b) = ≈_of_eq (omega arith)

pub residue_product : (p : ℕ) (x y : ℤ) → ⟨ suc p ⟩ residue p (x *ℤ y) ≈ residue p x * residue p y
unfolding residue
residue_product p (pos a) (pos b) = ≈_refl (a * b)
residue_product p (pos a) (negsuc b) = ≈_trans (residue_neg p (pos (a * suc b))) (≈_of_eq (omega arith))
residue_product p (negsuc a) (pos b) = ≈_trans (residue_neg p (pos (suc a * b))) (≈_of_eq (omega arith))
residue_product p (negsuc a) (negsuc b) = ≈_trans (≈_sym (square p (suc a * suc b))) (≈_of_eq (omega arith))

pub residue_taken : (p : ℕ) (how : Taking) (v : ℕ) → ⟨ suc p ⟩ residue p (taken (suc p) how v) ≈ v
unfolding residue taken signed
residue_taken p as-they-are v = ≈_refl v
residue_taken p by-reading v = go (leb v (half (suc p)))
  where
    go : (t : Bool) → ⟨ suc p ⟩ residue p (cond t (pos v) (pos v -ℤ pos (suc p))) ≈ v
    go true = ≈_refl v
    go false = ≈_trans (residue_sub p v (suc p)) (≈_by (≈_multiple {q = suc p} p) (omega arith))

pub residue_dot : (p : ℕ) (how : Taking) (n : ℕ) (a b : ℕ → ℕ) → ⟨ suc p ⟩ residue p (dot (taken (suc p) how) n a b) ≈ sum n (λ i. a i * b i)
unfolding residue dot sum
residue_dot p how zero a b = ≈_refl 0
residue_dot p how (suc n) a b =
    let ρ : ℕ → ℤ = taken (suc p) how in
    ≈_trans (residue_sum p (dot ρ n a b) (ρ (a n) *ℤ ρ (b n)))
    (≈_add (residue_dot p how n a b) (≈_trans (residue_product p (ρ (a n)) (ρ (b n))) (≈_mul (residue_taken p how (a n)) (residue_taken p how (b n)))))

pub residue_element : (p : ℕ) (z : ℤ) → in_range (suc p) z ≡ true → ⟨ suc p ⟩ residue p z ≈ element (suc p) z
unfolding residue element half
residue_element p (pos n) r = ≈_refl n
residue_element p (negsuc n) r = let l : n < half (suc p) = in_neg (suc p) n r in ≈_by (≈_multiple {q = suc p} n) (omega arith)

pub exact : (q : ℕ) → 1 < q → Exact q
unfolding residue
exact zero h = absurd (not-suc-le-zero h)
exact (suc p) h = record {
  reads = λ how n a b r.
      let z : ℤ = dot (taken (suc p) how) n a b in
      let s : ℕ = sum n (λ i. a i * b i) in
      let same : ⟨ suc p ⟩ s % suc p ≈ element (suc p) z = ≈_trans (≈_mod s) (≈_trans (≈_sym (residue_dot p how n a b)) (residue_element p z r)) in
      ap (signed (suc p)) (≈_exact (mod-lt s (omega arith)) (element_below (suc p) z (omega arith) r) same) ∙ signed_element (suc p) z r;
  stands = λ how n a b k l e. (≈_trans (≈_sym (residue_dot p how n a b)) (≈_of_eq (ap (residue p) e))).same ∙ mod-eq_of_lt l;
}

pub exact_reading : ExactReading
unfolding signed_told
exact_reading = record {
  exact = exact;
  reads = λ n e how count a b r.
      let q = modulus n in
      let k = known_number n e in
      let s : ℕ = sum count (λ i. a i * b i) in
      let big : 1 < q = k.is_prime.above_one in
      ap signed_told (signed_value k (s % q) (mod-lt s (omega arith)))
      ∙ ap (λ (z : ℤ). done (z ∷ [])) ((exact q big).reads how count a b r);
}
