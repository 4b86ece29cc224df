-- Laws of congruence modulo q.
--
--   ≈_refl ≈_sym ≈_trans    it is an equivalence
--   ≈_of_eq ≈_mod           equal numbers; a number and its remainder
--   ≈_add ≈_mul ≈_scale     sums and products
--   ≈_by                    a + d equals b + c, and c ≈ d: then a ≈ b
--   ≈_multiple              a multiple of q is ≈ 0
--   ≈_exact                 two numbers below q that are ≈ are equal
use mathlib.Core.Path.{◌≡◌, refl, sym, ap, ◌∙◌}
use Prim.Native.Nat.{ℕ, ◌+◌, ◌*◌, ◌/◌, ◌%◌, ◌<◌}
use native.Mathlib.Nat.{mod-mod, mod-eq_of_lt, add-mul-mod_self_left, div-add-mod, mul-mod_right, zero-mod}
use native.Mathlib.Omega.{arith}
use Rattle.algebra.specs.Modular.{⟨◌⟩◌≈◌}

module _ {q : ℕ} where
  pub ≈_of_eq : {a b : ℕ} → a ≡ b → ⟨ q ⟩ a ≈ b
  ≈_of_eq e = record { same = ap (λ (x : ℕ). x % q) e }

  pub ≈_refl : (a : ℕ) → ⟨ q ⟩ a ≈ a
  ≈_refl a = record { same = refl }

  pub ≈_sym : {a b : ℕ} → ⟨ q ⟩ a ≈ b → ⟨ q ⟩ b ≈ a
  ≈_sym e = record { same = sym e.same }

  pub ≈_trans : {a b c : ℕ} → ⟨ q ⟩ a ≈ b → ⟨ q ⟩ b ≈ c → ⟨ q ⟩ a ≈ c
  ≈_trans e f = record { same = e.same ∙ f.same }

  pub ≈_mod : (a : ℕ) → ⟨ q ⟩ a % q ≈ a
  ≈_mod a = record { same = mod-mod a q }

  -- two numbers that differ by multiples of q
  ≈_shift : (a b u v : ℕ) → a + q * u ≡ b + q * v → ⟨ q ⟩ a ≈ b
  ≈_shift a b u v e = record { same = sym (add-mul-mod_self_left a q u) ∙ ap (λ (x : ℕ). x % q) e ∙ add-mul-mod_self_left b q v }

  pub ≈_by : {a b c d : ℕ} → ⟨ q ⟩ c ≈ d → a + d ≡ b + c → ⟨ q ⟩ a ≈ b
  ≈_by {a} {b} {c} {d} e h =
      ≈_shift a b (d / q) (c / q) (omega (arith, h, e.same, div-add-mod c q, div-add-mod d q))

  pub ≈_add : {a b c d : ℕ} → ⟨ q ⟩ a ≈ b → ⟨ q ⟩ c ≈ d → ⟨ q ⟩ a + c ≈ b + d
  ≈_add {a} {b} {c} {d} e f =
      ≈_shift (a + c) (b + d) (b / q + d / q) (a / q + c / q)
      (omega (arith, e.same, f.same, div-add-mod a q, div-add-mod b q, div-add-mod c q, div-add-mod d q))

  pub ≈_scale : (k : ℕ) {a b : ℕ} → ⟨ q ⟩ a ≈ b → ⟨ q ⟩ k * a ≈ k * b
  ≈_scale k {a} {b} e =
      ≈_shift (k * a) (k * b) (k * (b / q)) (k * (a / q))
      (omega (arith, ap (λ (x : ℕ). k * x) (div-add-mod a q), ap (λ (x : ℕ). k * x) (div-add-mod b q), ap (λ (x : ℕ). k * x) e.same))

  pub ≈_mul : {a b c d : ℕ} → ⟨ q ⟩ a ≈ b → ⟨ q ⟩ c ≈ d → ⟨ q ⟩ a * c ≈ b * d
  ≈_mul {a} {b} {c} {d} e f =
      ≈_trans (≈_scale a f) (≈_by (≈_scale d e) (omega arith))

  pub ≈_multiple : (k : ℕ) → ⟨ q ⟩ q * k ≈ 0
  ≈_multiple k = record { same = mul-mod_right q k ∙ sym (zero-mod q) }

  pub ≈_exact : {a b : ℕ} → a < q → b < q → ⟨ q ⟩ a ≈ b → a ≡ b
  ≈_exact ha hb e = sym (mod-eq_of_lt ha) ∙ e.same ∙ mod-eq_of_lt hb
