-- Laws of powers modulo q, by halving the exponent.
--
--   Powering q x e product base rest    x ^ e is what is found so far, the product, times base ^ rest
--   powering_start                      nothing is found yet
--   powering_even, powering_odd         a step: the base is squared, and is a factor where the rest is odd
--   powering_end                        no rest: the power is found
use mathlib.Core.Path.{◌≡◌, sym, ap, ◌∙◌}
use Prim.Native.Nat.{ℕ, zero, suc, ◌+◌, ◌*◌, ◌/◌, ◌%◌, ◌^◌, ◌<◌}
use native.Mathlib.Nat.{pow-zero, pow-suc, one-mul, mul-one, mod-lt, mod-eq_of_lt}
use native.Mathlib.Omega.{arith}
use Rattle.algebra.specs.Modular.{⟨◌⟩◌≈◌}
use Rattle.algebra.proofs.Modular.{≈_refl, ≈_trans, ≈_mod, ≈_mul, ≈_of_eq}

pub record Powering (q x e product base rest : ℕ) : Type 0 where
  pub below : product < q
  pub same : ⟨ q ⟩ product * base ^ rest ≈ x ^ e

pub powering_start : {q : ℕ} (x e : ℕ) → 1 < q → Powering q x e 1 x e
powering_start x e above_one = record { below = above_one; same = ≈_of_eq (one-mul (x ^ e)) }

-- a power of the square
squares : (q b k : ℕ) → ⟨ q ⟩ (b * b % q) ^ k ≈ b ^ (k + k)
squares q b zero = ≈_of_eq (pow-zero (b * b % q) ∙ sym (pow-zero b))
squares q b (suc k) =
    let two : suc (suc (k + k)) ≡ suc k + suc k = omega arith in
    let more : b ^ (k + k) * (b * b) ≡ b ^ (suc k + suc k)
    = omega (arith, ap (λ (n : ℕ). n * b) (pow-suc b (k + k)), pow-suc b (suc (k + k)), ap (λ (n : ℕ). b ^ n) two) in
    ≈_trans (≈_of_eq (pow-suc (b * b % q) k)) (≈_trans (≈_mul (squares q b k) (≈_mod (b * b))) (≈_of_eq more))

module _ {q x e product base rest : ℕ} (so_far : Powering q x e product base rest) where
  pub powering_even : (rest % 2 ≡ 1 → ⊥) → Powering q x e product (base * base % q) (rest / 2)
  powering_even even =
      let whole : rest / 2 + rest / 2 ≡ rest = omega arith in
      record {
        below = so_far.below;
        same = ≈_trans (≈_mul (≈_refl product) (≈_trans (squares q base (rest / 2)) (≈_of_eq (ap (λ (n : ℕ). base ^ n) whole)))) so_far.same;
      }

  pub powering_odd : rest % 2 ≡ 1 → Powering q x e (product * base % q) (base * base % q) (rest / 2)
  powering_odd odd =
      let twice = rest / 2 + rest / 2 in
      let whole : suc (rest / 2 + rest / 2) ≡ rest = omega arith in
      let regroup : product * base * base ^ twice ≡ product * base ^ rest
      = omega (arith, ap (λ (n : ℕ). product * n) (sym (pow-suc base twice) ∙ ap (λ (n : ℕ). base ^ n) whole)) in
      record {
        below = mod-lt (product * base) (omega (arith, so_far.below));
        same = ≈_trans (≈_mul (≈_mod (product * base)) (squares q base (rest / 2))) (≈_trans (≈_of_eq regroup) so_far.same);
      }

  pub powering_end : rest ≡ 0 → product ≡ x ^ e % q
  powering_end none =
      let found : product * base ^ rest ≡ product
      = ap (λ (n : ℕ). product * base ^ n) none ∙ ap (λ (n : ℕ). product * n) (pow-zero base) ∙ mul-one product in
      sym (mod-eq_of_lt so_far.below) ∙ ap (λ (n : ℕ). n % q) (sym found) ∙ so_far.same.same
