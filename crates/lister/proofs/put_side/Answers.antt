-- `lister::put_side` meets its contract.
use Rattle.text.proofs.Writes.{then}
use Rattle.lister.specs.Listing.{side_line}
use Rattle.lister.specs.Internal.{side_text}
use Rattle.lister.proofs.put_side.Goals as goal

pub returns : goal.returns
unfolding side_text side_line
returns c =
    then c.put.ensures.written
    (then c.put_grid.ensures (then c.put-2.ensures.written (then c.put_row.ensures c.put-3.ensures.written)))
