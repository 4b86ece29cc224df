-- `decode_table::sizes_test` meets its contract.
use Rattle.decode_table.specs.Internal.{sizes_test}
use Rattle.decode_table.proofs.sizes_test.Goals as goal

pub returns : goal.returns
unfolding sizes_test
returns c =
    rw (c.no_size-5.ensures, c.no_size-4.ensures, c.no_size-3.ensures, c.no_size-2.ensures, c.no_size.ensures)
