-- `plan::check_points` meets its contract.
use mathlib.Core.Path.{◌≡◌}
use Rattle.refusal.specs.Chain.{first}
use Rattle.plan.specs.Planning.{all_point_tests}
use Rattle.plan.proofs.check_points.Given as goal

abbrev pub invariant-loop-i : goal.invariant-loop-i
invariant-loop-i l = first (all_point_tests l.q l.points l.i) ≡ 0
