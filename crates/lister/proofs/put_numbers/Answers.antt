-- `lister::put_numbers` meets its contract.
use Rattle.text.proofs.Writes.{then}
use Rattle.lister.specs.Listing.{number_lines}
use Rattle.lister.proofs.put_numbers.Goals as goal

pub returns : goal.returns
unfolding number_lines
returns c =
    let q = rw c.prime_of.ensures at c.put_line.ensures in
    let layout = rw c.from.ensures at c.put_line-2.ensures in
    then q (then layout (then c.put_line-3.ensures c.put_line-4.ensures))
