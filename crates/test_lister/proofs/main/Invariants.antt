-- `test_lister::main` meets its contract.
use Rattle.std.proofs.Common.{length}
use Rattle.test_lister.proofs.main.Given as goal

abbrev pub decreases-loop-rest : goal.decreases-loop-rest
decreases-loop-rest l = length l.rest
