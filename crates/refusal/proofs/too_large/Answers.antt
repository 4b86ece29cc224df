-- `refusal::too_large` meets its contract.
use Rattle.refusal.proofs.too_large.Goals as goal

pub returns : goal.returns
returns c = rw c.wide_product.ensures
