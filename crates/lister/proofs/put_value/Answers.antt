-- `lister::put_value` meets its contract.
use Rattle.text.proofs.Writes.{then}
use Rattle.lister.specs.Listing.{value}
use Rattle.lister.proofs.put_value.Goals as goal

pub returns : goal.returns
unfolding value
returns c = then c.put.ensures.written c.put_decimal.ensures.written
