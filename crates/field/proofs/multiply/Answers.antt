-- `field::multiply` meets its contract.
use Rattle.field.proofs.multiply.Goals as goal

pub returns : goal.returns
returns c = rw (← c.wide_product.ensures) c.reduce.ensures
