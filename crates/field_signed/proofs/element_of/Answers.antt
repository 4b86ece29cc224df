-- `field_signed::element_of` meets its contract: the number, the range, and then the two signs.
use mathlib.Core.Path.{◌≡◌, sym, ap, ◌∙◌, subst}
use mathlib.Core.Bool.{true, false}
use Prim.Native.Nat.{ℕ, ◌-◌, ◌/◌, ◌^◌, ◌<◌, ◌≤◌}
use native.Mathlib.Omega.{arith}
use lib.IntN.{ℤ, pos, neg_ℤ, nat_abs, ◌+ℤ◌, ◌-ℤ◌}
use lib.Signed.{lt_z, le_z}
use mir.Syntax.{w32, w64}
use mir.Val.{Fits, SFits, to_z, of_z}
use Rattle.std.specs.Prelude.{Ok}
use Rattle.std.proofs.lemmas.Result.{err_from_is_err_and}
use mir.Facts.{to_z-of_z}
use Rattle.field_signed.specs.Signed.{half, in_range, element}
use Rattle.field.proofs.Moduli.{Known, known, is_named, is_unnamed}
use Rattle.field_signed.proofs.Readings.{element_below}
use Rattle.field_signed.proofs.Outcomes.{element_unknown, element_outside, element_value}
use Rattle.field_signed.proofs.Words.{word, negative, negative_fits, fitting, too_low, too_high, within, plain, wrapped}
use Rattle.field_signed.proofs.element_of.Goals as goal
use Rattle.field_signed.proofs.element_of.Goals.{After-prime_of-q, then-value-half-via-then-value-half, then-value-half-via-else-value-half+then-half-value}

pub returns-in_err-modulus : goal.returns-in_err-modulus
returns-in_err-modulus c =
    let p = err_from_is_err_and c.from_residual.result c.from_residual.ensures.1 in
    let u = is_unnamed c.args.number _ (sym c.in_err-modulus.was ∙ c.try_from.ensures) in
    rw (p.1, p.2, u.1) (sym (element_unknown c.args.number c.args.value u.0))

abbrev z : After-prime_of-q → ℤ
z c = c.args.value

abbrev q : After-prime_of-q → ℕ
q c = c.prime_of-q.result

known-q : (c : After-prime_of-q) → Known c.args.number (q c)
known-q c = known _ (is_named c.args.number _ (sym c.in_ok-modulus.was ∙ c.try_from.ensures)) c.prime_of-q.ensures

half-fits : (c : After-prime_of-q) → Fits w32 ((q c - 1) / 2)
half-fits c = search fitting

-- the words that the tests compare
value_is : (c : After-prime_of-q) → to_z w64 (of_z w64 (z c)) ≡ z c
value_is c = to_z-of_z c.ranges.value

least-is : (c : After-prime_of-q) → to_z w64 (of_z w64 (pos 0 -ℤ to_z w64 ((q c - 1) / 2))) ≡ neg_ℤ (pos (half (q c)))
unfolding half
least-is c = to_z-of_z (negative_fits (half-fits c)) ∙ negative (half-fits c)

most-is : (c : After-prime_of-q) → to_z w64 ((q c - 1) / 2) ≡ pos (half (q c))
unfolding half
most-is c = word (half-fits c)

pub returns-then-value-half : goal.returns-then-value-half
returns-then-value-half c =
    let f = (goal.at.returns-then-value-half c).After-prime_of-q in
    sym (element_outside (known-q f) (z f)
    (elim c.then-value-half.branch [
      | then-value-half-via-then-value-half w ↦ too_low (q f) (value_is f) (least-is f) (most-is f) w.if-value-half.true
      | then-value-half-via-else-value-half+then-half-value w ↦ too_high (q f) (value_is f) (least-is f) (most-is f) w.if-half-value.true
    ]))

-- a value that passes both tests
module _ (f : After-prime_of-q)
    (above : lt_z (to_z w64 (of_z w64 (z f))) (to_z w64 (of_z w64 (pos 0 -ℤ to_z w64 ((q f - 1) / 2)))) ≡ false)
    (below : lt_z (to_z w64 ((q f - 1) / 2)) (to_z w64 (of_z w64 (z f))) ≡ false) where
  inside : in_range (q f) (z f) ≡ true
  inside = within (q f) (value_is f) (least-is f) (most-is f) above below

  small : element (q f) (z f) < 2 ^ 31
  small =
      let some : 1 ≤ q f = omega (arith, (known-q f).is_prime.above_one) in
      omega (arith, (known-q f).small, element_below (q f) (z f) some inside)

  wrapped-is : le_z (pos 0) (to_z w64 (of_z w64 (z f))) ≡ false → to_z w64 (of_z w64 (z f)) +ℤ to_z w64 (q f) ≡ pos (element (q f) (z f))
  wrapped-is t = wrapped (q f) (value_is f) (word (record { fits = f.prime_of-q.type_inv })) inside t

plain-is : (f : After-prime_of-q) → le_z (pos 0) (to_z w64 (of_z w64 (z f))) ≡ true → to_z w64 (of_z w64 (z f)) ≡ pos (element (q f) (z f))
plain-is f t = plain (q f) (value_is f) t

pub returns-then-value-ge0 : goal.returns-then-value-ge0
returns-then-value-ge0 c =
    let f = (goal.at.returns-then-value-ge0 c).After-prime_of-q in
    ap Ok (ap nat_abs (plain-is f c.if-value-ge0.true))
    ∙ sym (element_value (known-q f) (z f) (inside f c.if-value-half.false c.if-half-value.false))

pub overflow_add-result : goal.overflow_add-result
overflow_add-result c =
    let f = (goal.at.overflow_add-result c).After-prime_of-q in
    subst (SFits w64) (sym (wrapped-is f c.if-value-half.false c.if-half-value.false c.if-value-ge0.false))
    (record { sfits = omega (arith, small f c.if-value-half.false c.if-half-value.false) })

pub returns : goal.returns
returns c =
    let f = (goal.at.returns c).After-prime_of-q in
    ap Ok (ap nat_abs (to_z-of_z (overflow_add-result c) ∙ wrapped-is f c.if-value-half.false c.if-half-value.false c.if-value-ge0.false))
    ∙ sym (element_value (known-q f) (z f) (inside f c.if-value-half.false c.if-half-value.false))
