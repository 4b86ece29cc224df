-- `layout::masks_last` meets its contract.
use Rattle.std.proofs.Common.{arith}
use Rattle.layout.proofs.Nests.{follows_third}
use Rattle.layout.proofs.masks_last.Goals as goal

pub returns : goal.returns
returns c = follows_third _ _ _ _ (omega arith) (omega arith) (omega arith) (grind arith)
