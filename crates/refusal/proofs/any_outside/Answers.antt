-- `refusal::any_outside` meets its contract.
use Rattle.refusal.specs.Limits.{any_outside}
use Rattle.refusal.proofs.any_outside.Goals as goal

pub returns : goal.returns
unfolding any_outside
returns c = rw (c.outside-3.ensures, c.outside-2.ensures, c.outside.ensures)
