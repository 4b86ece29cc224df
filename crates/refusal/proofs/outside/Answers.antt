-- `refusal::outside` meets its contract.
use borrow.Author.Tests.{lt-ltb, le-ltb}
use Rattle.refusal.specs.Chain.{outside}
use Rattle.refusal.proofs.outside.Goals as goal

pub returns-then-n-low : goal.returns-then-n-low
unfolding outside
returns-then-n-low c = rw (lt-ltb c.args.n c.args.low c.if-n-low.true)

pub returns-else-n-low : goal.returns-else-n-low
unfolding outside
returns-else-n-low c = rw (le-ltb c.args.n c.args.low c.if-n-low.false)
