-- Inverses modulo a prime.
--
--   inverse_below      the inverse is below q
--   inverse_of_zero    a multiple of q has none, and its inverse is 0
--   inverse_right      a * inverse q a ≈ 1 where a is no multiple of q
--   inverse_unique     the only number below q with that product
--   cancel             a factor that is no multiple of q may be left out
--   no_zero_divisor    a product is ≈ 0 only where a factor is
--   cancel_difference  x * a ≈ r * a with x not ≈ r: then a ≈ 0
use mathlib.Core.Path.{◌≡◌, refl, sym, ap, ◌∙◌, subst}
use mathlib.Core.Bool.{Bool, true, false, cond}
use mathlib.Core.Logic.{⊎_elim}
use Prim.Native.Nat.{ℕ, zero, suc, ◌+◌, ◌-◌, ◌*◌, ◌/◌, ◌%◌, ◌<◌, ◌≤◌}
use native.Mathlib.Nat.{div-add-mod, mod-lt, mod-eq_of_lt, zero-mod, not-suc-le-zero, mul-zero}
use native.Mathlib.Omega.{arith}
use lib.Dec.{T, eqb, eqb→eq, eqb_refl}
use Rattle.algebra.specs.Modular.{⟨◌⟩◌≈◌, Prime, last, inverse}
use Rattle.algebra.proofs.Orders.{le_or_lt, eq_or_ne}
use Rattle.algebra.proofs.Modular.{≈_sym, ≈_trans, ≈_mod, ≈_by, ≈_add, ≈_scale, ≈_mul, ≈_multiple, ≈_exact, ≈_of_eq}

-- ---- the last number that passes a test

module _ (test : ℕ → Bool) where
  last_below : (n : ℕ) → 0 < n → last test n < n
  unfolding last
  last_below zero h = h
  last_below (suc n) h = go (test n) n (last_below n)
    where
      go : (b : Bool) (n : ℕ) → (0 < n → last test n < n) → cond b n (last test n) < suc n
      go true n ih = omega arith
      go false zero ih = omega arith
      go false (suc n) ih = let below = ih (omega arith) in omega arith

  last_passes : (n b : ℕ) → b < n → T (test b) → T (test (last test n))
  unfolding last
  last_passes zero b h t = absurd (not-suc-le-zero h)
  last_passes (suc n) b h t = go (test n) refl (λ l. last_passes n b l t)
    where
      go : (v : Bool) → test n ≡ v → (b < n → T (test (last test n))) → T (test (cond v n (last test n)))
      go true e ih = subst T (sym e) tt
      go false e ih =
          ⊎_elim (λ (same : b ≡ n). absurd (subst T (ap test same ∙ e) t)) (λ (ne : b ≡ n → ⊥). ih (omega arith)) (eq_or_ne b n)

  last_none : (n : ℕ) → ((b : ℕ) → b < n → T (test b) → ⊥) → last test n ≡ 0
  unfolding last
  last_none zero none = refl
  last_none (suc n) none = go (test n) refl (last_none n (λ b h. none b (omega arith)))
    where
      go : (v : Bool) → test n ≡ v → last test n ≡ 0 → cond v n (last test n) ≡ 0
      go true e ih = absurd (none n (omega arith) (subst T (sym e) tt))
      go false e ih = ih

-- ---- the inverse

test : ℕ → ℕ → ℕ → Bool
test q a b = eqb (a * b % q) 1

module _ {q : ℕ} (prime : Prime q) where
  -- q is a * u + r with 0 < r < a: so a * u ≈ - r, and - s for an inverse s of r is (q - 1) * s
  turn : (a u r s : ℕ) → a * u + r ≡ q → ⟨ q ⟩ r * s ≈ 1 → ⟨ q ⟩ a * (u * ((q - 1) * s)) ≈ 1
  turn a u r s e h =
      let w : ℕ = q - 1 in
      let q_is : w + 1 ≡ q = omega (arith, prime.above_one) in
      ≈_by {c = q * (w * s) + r * s} {d = q * (r * s) + 1} (≈_add (≈_trans (≈_multiple (w * s)) (≈_sym (≈_multiple (r * s)))) h)
      (omega (arith, ap (λ (x : ℕ). x * (w * s)) e, ap (λ (x : ℕ). x * (r * s)) q_is))

  remainder_pos : (a : ℕ) → 1 < a → a < q → 0 < q % a
  remainder_pos a low high = ⊎_elim (λ (z : q % a ≤ 0). absurd (prime.no_divisor a low high (omega arith))) (λ (l : 0 < q % a). l) (le_or_lt (q % a) 0)

  exists : (n a : ℕ) → a < n → 0 < a → a < q → (b : ℕ) × (⟨ q ⟩ a * b ≈ 1)
  exists zero a h pos below = absurd (not-suc-le-zero h)
  exists (suc n) a h pos below = ⊎_elim (λ e. (1, ≈_of_eq (omega arith))) (λ ne. more ne (λ low. exists n (q % a) low)) (eq_or_ne a 1)
    where
      more : (a ≡ 1 → ⊥) → (q % a < n → 0 < q % a → q % a < q → (b : ℕ) × (⟨ q ⟩ q % a * b ≈ 1)) → (b : ℕ) × (⟨ q ⟩ a * b ≈ 1)
      more ne ih =
          let low : 1 < a = omega arith in
          let r-low : q % a < a = mod-lt q pos in
          let s = ih (omega arith) (remainder_pos a low below) (omega arith) in
          (q / a * ((q - 1) * s.0), turn a (q / a) (q % a) s.0 (div-add-mod q a) s.1)

  pub inverse_below : (a : ℕ) → inverse q a < q
  unfolding inverse test
  inverse_below a = last_below (test q a) q (omega (arith, prime.above_one))

  one_mod : 1 % q ≡ 1
  one_mod = mod-eq_of_lt prime.above_one

  pass : (a b : ℕ) → ⟨ q ⟩ a * b ≈ 1 → T (test q a b)
  unfolding test
  pass a b h = subst (λ (x : ℕ). T (eqb (a * b % q) x)) (h.same ∙ one_mod) (eqb_refl (a * b % q))

  passed : (a b : ℕ) → T (test q a b) → ⟨ q ⟩ a * b ≈ 1
  unfolding test
  passed a b t = record { same = eqb→eq (a * b % q) 1 t ∙ sym one_mod }

  pub inverse_right : (a : ℕ) → (⟨ q ⟩ a ≈ 0 → ⊥) → ⟨ q ⟩ a * inverse q a ≈ 1
  unfolding inverse test
  inverse_right a ne =
      let r = a % q in
      let q-pos : 0 < q = omega (arith, prime.above_one) in
      let r-pos : 0 < r = ⊎_elim (λ (z : r ≤ 0). absurd (ne (record { same = omega (arith, zero-mod q) }))) (λ (l : 0 < r). l) (le_or_lt r 0) in
      let b = exists q r (mod-lt a q-pos) r-pos (mod-lt a q-pos) in
      let h : ⟨ q ⟩ a * (b.0 % q) ≈ 1 = ≈_trans (≈_mul (≈_sym (≈_mod a)) (≈_mod b.0)) b.1 in
      passed a (last (test q a) q) (last_passes (test q a) q (b.0 % q) (mod-lt b.0 q-pos) (pass a (b.0 % q) h))

  pub cancel : {c a b : ℕ} → (⟨ q ⟩ c ≈ 0 → ⊥) → ⟨ q ⟩ c * a ≈ c * b → ⟨ q ⟩ a ≈ b
  cancel {c} {a} {b} ne e = ≈_trans (≈_sym (back a)) (≈_trans (≈_scale (inverse q c) e) (back b))
    where
      back : (x : ℕ) → ⟨ q ⟩ inverse q c * (c * x) ≈ x
      back x = ≈_by (≈_scale x (inverse_right c ne)) (omega arith)

  pub no_zero_divisor : (a b : ℕ) → (⟨ q ⟩ a ≈ 0 → ⊥) → ⟨ q ⟩ a * b ≈ 0 → ⟨ q ⟩ b ≈ 0
  no_zero_divisor a b ne e = cancel ne (≈_trans e (≈_of_eq (sym (mul-zero a))))

  -- x - r is no multiple of q, and (x - r) * a is one
  pub cancel_difference : (x r a : ℕ) → (⟨ q ⟩ x ≈ r → ⊥) → ⟨ q ⟩ x * a ≈ r * a → ⟨ q ⟩ a ≈ 0
  cancel_difference x r a ne e =
      let w : ℕ = q - 1 in
      let q_is : w + 1 ≡ q = omega (arith, prime.above_one) in
      no_zero_divisor (x + w * r) a
      (λ (h : ⟨ q ⟩ x + w * r ≈ 0). ne (≈_by (≈_trans h (≈_sym (≈_multiple r))) (omega (arith, ap (λ (k : ℕ). k * r) q_is))))
      (≈_by (≈_add e (≈_multiple (r * a))) (omega (arith, ap (λ (k : ℕ). k * (r * a)) q_is)))

  zero_no_inverse : (a b : ℕ) → ⟨ q ⟩ a ≈ 0 → ⟨ q ⟩ a * b ≈ 1 → ⊥
  zero_no_inverse a b z h =
      let one-zero : ⟨ q ⟩ 1 ≈ 0 = ≈_trans (≈_sym h) (≈_by (≈_scale b z) (omega arith)) in
      let e : ◌≡◌ {A = ℕ} 1 0 = sym one_mod ∙ one-zero.same ∙ zero-mod q in
      omega arith

  pub inverse_of_zero : (a : ℕ) → ⟨ q ⟩ a ≈ 0 → inverse q a ≡ 0
  unfolding inverse test
  inverse_of_zero a z = last_none (test q a) q (λ b h t. zero_no_inverse a b z (passed a b t))

  pub inverse_unique : (a b : ℕ) → b < q → ⟨ q ⟩ a * b ≈ 1 → b ≡ inverse q a
  inverse_unique a b h e =
      let ne : ⟨ q ⟩ a ≈ 0 → ⊥ = λ z. zero_no_inverse a b z e in
      ≈_exact h (inverse_below a) (cancel ne (≈_trans e (≈_sym (inverse_right a ne))))
