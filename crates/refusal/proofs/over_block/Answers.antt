-- `refusal::over_block` meets its contract.
use Rattle.refusal.specs.Limits.{over_block}
use Rattle.refusal.proofs.over_block.Goals as goal

pub returns : goal.returns
unfolding over_block
returns c = rw (c.too_large-3.ensures, c.too_large-2.ensures, c.too_large.ensures)
