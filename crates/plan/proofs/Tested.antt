-- What a call with tests returns, test by test.
--
--   tested    a test holds, or does not, and none is left: the laws as one set, for `grind`
use Rattle.refusal.proofs.Answered.{answered_hit, answered_miss, answered_none}

pub ruleset tested = (answered_hit, answered_miss, answered_none)
