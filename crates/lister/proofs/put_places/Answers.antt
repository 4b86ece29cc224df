-- `lister::put_places` meets its contract.
use Rattle.text.proofs.Writes.{then}
use Rattle.lister.specs.Listing.{line}
use Rattle.lister.specs.Internal.{places_text}
use Rattle.lister.proofs.put_places.Goals as goal

pub returns : goal.returns
unfolding places_text line
returns c = then c.put.ensures.written (then c.put_grid.ensures c.put-2.ensures.written)
