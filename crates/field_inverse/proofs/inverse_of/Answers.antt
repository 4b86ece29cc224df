-- `field_inverse::inverse_of` meets its contract.
use mathlib.Core.Path.{◌≡◌, sym, ap, ◌∙◌, subst}
use mathlib.Core.Bool.{Bool}
use mathlib.Core.Logic.{⊎_elim}
use Prim.Native.Nat.{ℕ, ◌%◌, ◌^◌, ◌<◌, ◌≤◌}
use native.Mathlib.Nat.{mod-lt}
use native.Mathlib.Omega.{arith}
use Rattle.algebra.specs.Modular.{Prime, inverse}
use Rattle.algebra.proofs.Orders.{le_or_lt}
use Rattle.field.specs.declared.Modulus.{Modulus}
use Rattle.field.specs.Modulus.{prime}
use Rattle.field.proofs.Moduli.{prime_prime, prime_small}
use Rattle.field_inverse.proofs.Euclid.{Euclid, euclid_start, euclid_below, euclid_step, euclid_none, euclid_end, with_sign}
use Rattle.field_inverse.proofs.inverse_of.Goals as goal

-- the prime, as the code has it
prime-q : (m : Modulus) {q : ℕ} → q ≡ prime m → Prime q
prime-q m e = subst Prime (sym e) (prime_prime m)

small-q : (m : Modulus) {q : ℕ} → q ≡ prime m → q < 2 ^ 31
small-q m e = subst (λ (k : ℕ). k < 2 ^ 31) (sym e) (prime_small m)

pub loop-next-init : goal.loop-next-init
loop-next-init c =
    let a = c.args in
    let q = c.prime_of-q in
    euclid_start q.result a.a c.reduce-next.result (prime-q a.modulus q.ensures).above_one
    (c.reduce-next.ensures ∙ ap (λ (k : ℕ). a.a % k) (sym q.ensures))

pub overflow_sub-result : goal.overflow_sub-result
overflow_sub-result c = omega (arith, c.loop-next.invariant.within)

pub nonzero_div-quotient : goal.nonzero_div-quotient
nonzero_div-quotient c = omega arith

pub nonzero_rem-remainder : goal.nonzero_rem-remainder
nonzero_rem-remainder c = omega arith

pub overflow_mul-new_factor : goal.overflow_mul-new_factor
overflow_mul-new_factor c = omega (arith, small-q c.args.modulus c.prime_of-q.ensures, euclid_below (nonzero_rem-remainder c) c.loop-next.invariant)

pub overflow_add-new_factor : goal.overflow_add-new_factor
overflow_add-new_factor c = omega (arith, small-q c.args.modulus c.prime_of-q.ensures, euclid_below (nonzero_rem-remainder c) c.loop-next.invariant)

pub loop-next-smaller : goal.loop-next-smaller
loop-next-smaller c = mod-lt c.loop-next.last (nonzero_rem-remainder c)

pub loop-next-preserved : goal.loop-next-preserved
loop-next-preserved c = euclid_step (nonzero_rem-remainder c) c.loop-next.invariant

-- at the break: the last factor is 0, or it is the inverse with its sign
module _ (m : Modulus) (a : ℕ) {q last next last_factor next_factor : ℕ} {minus : Bool} (is : q ≡ prime m) (end : next ≡ 0)
    (inv : Euclid q a last next last_factor next_factor minus) where
  is-wanted : inverse q a ≡ inverse (prime m) a
  is-wanted = ap (λ (k : ℕ). inverse k a) is

  at_none : last_factor ≡ 0 → last_factor ≡ inverse (prime m) a
  at_none none = euclid_none (prime-q m is) end inv none ∙ is-wanted

  at-end : 0 < last_factor → with_sign q minus last_factor ≡ inverse (prime m) a
  at-end some = euclid_end (prime-q m is) end inv some ∙ is-wanted

pub returns-then-last_factor-gt0 : goal.returns-then-last_factor-gt0
unfolding with_sign
returns-then-last_factor-gt0 c =
    rw c.if-minus.true at
    (at-end c.args.modulus c.args.a c.prime_of-q.ensures c.if-next-eq0.true c.loop-next.invariant c.if-last_factor-gt0.true)

pub returns-else-minus : goal.returns-else-minus
unfolding with_sign
returns-else-minus c =
    let factor = c.loop-next.last_factor in
    let none = at_none c.args.modulus c.args.a c.prime_of-q.ensures c.if-next-eq0.true c.loop-next.invariant in
    let end = at-end c.args.modulus c.args.a c.prime_of-q.ensures c.if-next-eq0.true c.loop-next.invariant in
    ⊎_elim (λ w. none (omega (arith, w.1)))
    (λ w. ⊎_elim (λ (z : factor ≤ 0). none (omega arith)) (λ (some : 0 < factor). rw w at (end some)) (le_or_lt factor 0))
    c.else-minus.either
