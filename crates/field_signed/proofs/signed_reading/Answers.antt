-- `field_signed::signed_reading` meets its contract: the number, the element, and then the two halves.
use mathlib.Core.Path.{sym, ap, ◌∙◌}
use Prim.Native.Nat.{ℕ, ◌<◌}
use native.Mathlib.Omega.{arith}
use Rattle.std.specs.Prelude.{Ok}
use Rattle.std.proofs.lemmas.Result.{err_from_is_err_and}
use mir.Facts.{to_z-of_z}
use Rattle.field_signed.specs.Signed.{half}
use Rattle.field.proofs.Moduli.{Known, known, is_named, is_unnamed}
use Rattle.field_signed.proofs.Readings.{signed_low, signed_high}
use Rattle.field_signed.proofs.Outcomes.{signed_unknown, signed_above, signed_value}
use Rattle.field_signed.proofs.Words.{word, difference, fitting}
use Rattle.field_signed.proofs.signed_reading.Goals as goal
use Rattle.field_signed.proofs.signed_reading.Goals.{After-prime_of-q}

pub returns-in_err-modulus : goal.returns-in_err-modulus
returns-in_err-modulus c =
    let p = err_from_is_err_and c.from_residual.result c.from_residual.ensures.1 in
    let u = is_unnamed c.args.number _ (sym c.in_err-modulus.was ∙ c.try_from.ensures) in
    rw (p.1, p.2, u.1) (sym (signed_unknown c.args.number c.args.v u.0))

abbrev v : After-prime_of-q → ℕ
v c = c.args.v

abbrev q : After-prime_of-q → ℕ
q c = c.prime_of-q.result

known-q : (c : After-prime_of-q) → Known c.args.number (q c)
known-q c = known _ (is_named c.args.number _ (sym c.in_ok-modulus.was ∙ c.try_from.ensures)) c.prime_of-q.ensures

pub returns-then-q-v : goal.returns-then-q-v
returns-then-q-v c = let f = (goal.at.returns-then-q-v c).After-prime_of-q in sym (signed_above (known-q f) (v f) (omega arith))

pub returns-then-v-top : goal.returns-then-v-top
unfolding half
returns-then-v-top c =
    let f = (goal.at.returns-then-v-top c).After-prime_of-q in
    let l : v f < q f = omega arith in
    ap Ok (word c.ranges.v ∙ sym (signed_low (q f) (v f) (omega arith))) ∙ sym (signed_value (known-q f) (v f) l)

pub overflow_sub-result : goal.overflow_sub-result
overflow_sub-result c = search fitting

pub returns : goal.returns
unfolding half
returns c =
    let f = (goal.at.returns c).After-prime_of-q in
    let l = c.if-q-v.false in
    ap Ok (to_z-of_z (overflow_sub-result c) ∙ difference c.ranges.v (record { fits = c.prime_of-q.type_inv }) l ∙ sym (signed_high (q f) (v f) c.if-v-top.false l)) ∙ sym (signed_value (known-q f) (v f) l)
