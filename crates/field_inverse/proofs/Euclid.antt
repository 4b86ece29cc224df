-- Euclid's remainders of a prime q and a number a, each with a factor: a times the factor, with its sign, leaves the remainder.
-- The factors' sizes stay at most q, and their signs alternate.
--
--   with_sign       a factor of a size and a sign, modulo q
--   Euclid          two remainders that follow one another, with their factors' sizes, and whether the first factor is negative
--   euclid_start    q and a
--   euclid_below    the next size is at most q
--   euclid_step     the next remainder
--   euclid_none     where a leaves 0, no step is made, and 0 stands for the inverse
--   euclid_end      else past the last remainder stands the inverse
use mathlib.Core.Path.{◌≡◌, sym, ap, ◌∙◌, subst}
use mathlib.Core.Bool.{Bool, true, false, not}
use mathlib.Core.Logic.{⊎_elim}
use Prim.Native.Nat.{ℕ, ◌+◌, ◌-◌, ◌*◌, ◌/◌, ◌%◌, ◌<◌, ◌≤◌}
use native.Mathlib.Nat.{le_of_lt, mod-lt, div-add-mod, div-eq-sub-div, mul-pos, mul-le-mul_left, mul-le-mul_right, mul-mod_right, mul-one, sub-zero, zero-mod}
use native.Mathlib.Omega.{arith}
use Rattle.algebra.specs.Modular.{⟨◌⟩◌≈◌, Prime, inverse}
use Rattle.algebra.proofs.Orders.{le_or_lt}
use Rattle.algebra.proofs.Modular.{≈_sym, ≈_trans, ≈_mod, ≈_add, ≈_scale, ≈_multiple, ≈_by, ≈_of_eq}
use Rattle.algebra.proofs.Inverses.{inverse_of_zero, inverse_unique}

unfoldable pub with_sign : (q : ℕ) (minus : Bool) (factor : ℕ) → ℕ
with_sign q true factor = q - factor
with_sign q false factor = factor

-- the balance keeps the sizes at most q; only before the first step is the last size 0
pub record Euclid (q a last next last-factor next-factor : ℕ) (minus : Bool) : Type 0 where
  pub falls : next < last
  pub within : last + last-factor ≤ q
  pub unmoved : last-factor ≡ 0 → next ≡ a % q
  pub positive : 0 < next-factor
  pub balance : last * next-factor + next * last-factor ≡ q
  pub last_leaves : ⟨ q ⟩ a * with_sign q minus last-factor ≈ last
  pub next_leaves : ⟨ q ⟩ a * with_sign q (not minus) next-factor ≈ next

pub euclid_start : (q a next : ℕ) → 1 < q → next ≡ a % q → Euclid q a q next 0 1 true
unfolding with_sign
euclid_start q a next h e = record {
  falls = subst (λ (k : ℕ). k < q) (sym e) (mod-lt a (omega arith));
  within = omega arith;
  unmoved = λ z. e;
  positive = omega arith;
  balance = omega arith;
  last_leaves = ≈_by (≈_trans (≈_multiple {q = q} a) (≈_sym (≈_multiple {q = q} 1))) (omega (arith, ap (λ (k : ℕ). a * k) (sub-zero q)));
  next_leaves = ≈_trans (≈_of_eq (mul-one a)) (≈_trans (≈_sym (≈_mod a)) (≈_of_eq (sym e)));
}

-- what a times the new factor leaves
step_leaves : (q a : ℕ) (minus : Bool) (last-factor next-factor quotient next rest : ℕ) → next-factor ≤ q → last-factor + quotient * next-factor ≤ q
    → ⟨ q ⟩ a * with_sign q minus last-factor ≈ next * quotient + rest
    → ⟨ q ⟩ a * with_sign q (not minus) next-factor ≈ next
    → ⟨ q ⟩ a * with_sign q (not (not minus)) (last-factor + quotient * next-factor) ≈ rest
unfolding with_sign
step_leaves q a true last-factor next-factor quotient next rest next_small new-small l n =
    let less : q - last-factor ≡ q - (last-factor + quotient * next-factor) + quotient * next-factor = omega arith in
    ≈_by (≈_add l (≈_scale quotient (≈_sym n))) (omega (arith, ap (λ (k : ℕ). a * k) less))
step_leaves q a false last-factor next-factor quotient next rest next_small new-small l n =
    let back : q - next-factor + next-factor ≡ q = omega arith in
    ≈_by (≈_add (≈_add l (≈_scale quotient (≈_sym n))) (≈_multiple (quotient * a))) (omega (arith, ap (λ (k : ℕ). quotient * a * k) back))

module _ {q a last next last-factor next-factor : ℕ} {minus : Bool} (pos : 0 < next) (e : Euclid q a last next last-factor next-factor minus) where
  whole : next * (last / next) + last % next ≡ last
  whole = div-add-mod last next

  some : 0 < last / next
  some = omega (arith, div-eq-sub-div pos (le_of_lt e.falls))

  new_within : next + next-factor ≤ q
  new_within = omega (arith, mul-le-mul_right next-factor e.falls, mul-le-mul_left next e.positive)

  new_balance : next * (last-factor + last / next * next-factor) + last % next * next-factor ≡ q
  new_balance = omega (arith, ap (λ (k : ℕ). k * next-factor) whole)

  pub euclid_below : last-factor + last / next * next-factor ≤ q
  euclid_below = omega (arith, new_balance, mul-le-mul_right (last-factor + last / next * next-factor) pos)

  pub euclid_step : Euclid q a next (last % next) next-factor (last-factor + last / next * next-factor) (not minus)
  euclid_step = record {
    falls = mod-lt last pos;
    within = new_within;
    unmoved = λ z. omega arith;
    positive = omega (arith, mul-pos some e.positive);
    balance = new_balance;
    last_leaves = e.next_leaves;
    next_leaves =
        step_leaves q a minus last-factor next-factor (last / next) next (last % next) (omega (arith, new_within)) euclid_below
        (≈_trans e.last_leaves (≈_of_eq (sym whole)))
        e.next_leaves;
  }

with_sign_below : (q : ℕ) (minus : Bool) (factor : ℕ) → 0 < factor → factor < q → with_sign q minus factor < q
unfolding with_sign
with_sign_below q true factor pos h = omega arith
with_sign_below q false factor pos h = h

module _ {q a last next last-factor next-factor : ℕ} {minus : Bool} (prime : Prime q) (z : next ≡ 0)
    (e : Euclid q a last next last-factor next-factor minus) where
  pub euclid_none : last-factor ≡ 0 → last-factor ≡ inverse q a
  euclid_none none = none ∙ sym (inverse_of_zero prime a (record { same = sym (e.unmoved none) ∙ z ∙ sym (zero-mod q) }))

  product : last * next-factor ≡ q
  product = omega (arith, ap (λ (k : ℕ). k * last-factor) z)

  -- the last remainder before 0 divides q, so it is 1
  one : 0 < last-factor → last ≡ 1
  one some =
      ⊎_elim (λ (h : last ≤ 1). omega arith)
      (λ (h : 1 < last). absurd (prime.no_divisor last h (omega arith) (ap (λ (k : ℕ). k % last) (sym product) ∙ mul-mod_right last next-factor)))
      (le_or_lt last 1)

  pub euclid_end : 0 < last-factor → with_sign q minus last-factor ≡ inverse q a
  euclid_end some =
      inverse_unique prime a (with_sign q minus last-factor) (with_sign_below q minus last-factor some (omega arith))
      (≈_trans e.last_leaves (≈_of_eq (one some)))
