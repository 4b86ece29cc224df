-- `refusal::sizes_outside` meets its contract.
use Rattle.refusal.specs.Limits.{sizes_outside}
use Rattle.refusal.proofs.sizes_outside.Goals as goal

pub returns : goal.returns
unfolding sizes_outside
returns c = c.any_outside.ensures
