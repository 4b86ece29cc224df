-- `test_groups::fill` meets its contract.
use Prim.Native.Nat.{◌≤◌}
use Rattle.test_groups.proofs.fill.Given as goal

abbrev pub invariant-loop-element : goal.invariant-loop-element
invariant-loop-element l = l.x ≤ 256
