-- `lister::all_points` meets its contract.
use Rattle.std.proofs.Common.{◌≡◌, suc, take}
use Rattle.algebra.specs.Lists.{tab}
use Rattle.lister.proofs.all_points.Given as goal

abbrev pub invariant-loop-i : goal.invariant-loop-i
invariant-loop-i l = take l.i l.point-items ≡ tab suc l.i
