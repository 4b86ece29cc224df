-- `field::reduce` meets its contract.
use Rattle.field.proofs.reduce.Goals as goal

pub returns-in-Q13 : goal.returns-in-Q13
returns-in-Q13 c = rw c.in-Q13.is

pub returns-in-Q257 : goal.returns-in-Q257
returns-in-Q257 c = rw c.in-Q257.is

pub returns-in-Q65537 : goal.returns-in-Q65537
returns-in-Q65537 c = rw c.in-Q65537.is

pub returns-in-Q2147483647 : goal.returns-in-Q2147483647
returns-in-Q2147483647 c = rw c.in-Q2147483647.is
