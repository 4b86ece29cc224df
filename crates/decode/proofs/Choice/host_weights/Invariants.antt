-- `decode::Choice::host_weights` meets its contract.
use mathlib.Core.Path.{◌≡◌}
use mathlib.Core.List.{◌++◌}
use lib.ListN.{drop}
use Rattle.algebra.specs.Lists.{tab}
use Rattle.decode.specs.Internal.{host_weight}
use Rattle.decode.proofs.Choice.host_weights.Given as goal

abbrev pub invariant-loop-b : goal.invariant-loop-b
invariant-loop-b l = l.out ≡ tab (host_weight l.self.plan l.x l.self.points.now l.roots) l.b ++ drop l.b l.initial.out
