-- `test_groups::hear_set` meets its contract.
use Prim.Native.Nat.{◌<◌}
use Rattle.test_groups.proofs.hear_set.Given as goal

abbrev pub invariant-loop : goal.invariant-loop
invariant-loop l = l.index < 20
