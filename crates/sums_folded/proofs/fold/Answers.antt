-- `sums_folded::fold` meets its contract.
use Rattle.std.proofs.Common.{refl}
use Rattle.sums_folded.specs.Internal.{fold}
use Rattle.sums_folded.proofs.fold.Goals as goal

pub returns : goal.returns
unfolding fold
returns c = refl
