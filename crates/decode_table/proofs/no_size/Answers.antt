-- `decode_table::no_size` meets its contract.
use mathlib.Core.Path.{refl}
use Rattle.refusal.specs.Chain.{outside}
use Rattle.decode_table.proofs.no_size.Goals as goal

pub returns : goal.returns
unfolding outside
returns c = refl
