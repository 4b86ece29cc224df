-- `plan::stands_in` meets its contract.
use mathlib.Core.Path.{◌≡◌}
use lib.ListN.{take}
use Rattle.plan.specs.Planning.{member}
use Rattle.plan.proofs.stands_in.Given as goal

abbrev pub invariant-loop-y : goal.invariant-loop-y
invariant-loop-y l = l.found ≡ member l.x (take l.y-index l.points)
