-- `field::prime_of` meets its contract.
use mathlib.Core.Path.{sym, ap}
use Rattle.field.specs.Modulus.{prime}
use Rattle.field.proofs.prime_of.Goals as goal

pub returns-in-Q13 : goal.returns-in-Q13
returns-in-Q13 c = sym (ap prime c.in-Q13.is)

pub returns-in-Q257 : goal.returns-in-Q257
returns-in-Q257 c = sym (ap prime c.in-Q257.is)

pub returns-in-Q65537 : goal.returns-in-Q65537
returns-in-Q65537 c = sym (ap prime c.in-Q65537.is)

pub returns-in-Q2147483647 : goal.returns-in-Q2147483647
returns-in-Q2147483647 c = sym (ap prime c.in-Q2147483647.is)
