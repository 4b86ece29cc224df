-- `field::power` meets its contract: what is found times the base to the rest is always the power.
use native.Mathlib.Omega.{arith}
use Rattle.field.proofs.Moduli.{prime_prime}
use Rattle.field.proofs.Powers.{powering_start, powering_even, powering_odd, powering_end}
use Rattle.field.proofs.power.Goals as goal
use Rattle.field.proofs.power.Goals.{then-rest-eq1, else-rest-eq1}

pub loop-rest-init : goal.loop-rest-init
loop-rest-init c = let a = c.args in powering_start a.x a.exponent (prime_prime a.modulus).above_one

pub loop-rest-smaller : goal.loop-rest-smaller
loop-rest-smaller c = omega arith

pub loop-rest-preserved : goal.loop-rest-preserved
loop-rest-preserved c =
    let inv = c.loop-rest.invariant in
    rw c.multiply-base.ensures
    (elim c.if-rest-eq1.branch [
      | then-rest-eq1 w ↦ rw (w.product-is, w.multiply-product.ensures) (powering_odd inv w.if-rest-eq1.true)
      | else-rest-eq1 w ↦ rw w.product-is (powering_even inv w.if-rest-eq1.false)
    ])

pub returns : goal.returns
returns c = powering_end c.loop-rest.invariant (omega arith)
