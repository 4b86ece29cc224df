-- `field::power` meets its contract: what is found times the base to the rest is always the power.
use Rattle.field.specs.Modulus.{prime}
use Rattle.field.proofs.Powers.{Powering}
use Rattle.field.proofs.power.Given as goal

abbrev pub invariant-loop-rest : goal.invariant-loop-rest
invariant-loop-rest l = Powering (prime l.modulus) l.x l.exponent l.product l.base l.rest

abbrev pub decreases-loop-rest : goal.decreases-loop-rest
decreases-loop-rest l = l.rest
