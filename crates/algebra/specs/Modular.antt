-- Whole numbers modulo q.
--
--   ⟨ q ⟩ a ≈ b == a and b leave the same remainder by q
--   Prime q     == q is above 1, and no number between 1 and q divides it
--   last test n == the last number below n that passes the test, and 0 where none does
--   inverse q a == the number below q whose product with a leaves 1, and 0 where there is none
use Rattle.std.specs.Prelude.{◌≡◌, Bool, cond, ℕ, zero, suc, ◌*◌, ◌%◌, ◌<◌, eqb}

infix 4 ⟨◌⟩◌≈◌
pub record ⟨◌⟩◌≈◌ (q a b : ℕ) : Type 0 where
  pub same : a % q ≡ b % q

pub record Prime (q : ℕ) : Type 0 where
  pub above_one : 1 < q
  pub no_divisor : (d : ℕ) → 1 < d → d < q → q % d ≡ 0 → ⊥

unfoldable pub last : (ℕ → Bool) → ℕ → ℕ
last test zero = 0
last test (suc n) = let rest = last test n in cond (test n) n rest

unfoldable pub inverse : ℕ → ℕ → ℕ
inverse q a = last (λ b. eqb (a * b % q) 1) q
