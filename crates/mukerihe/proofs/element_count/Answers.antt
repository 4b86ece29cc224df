-- `mukerihe::element_count` meets its contract.
use Rattle.mukerihe.specs.Internal.{whole_elements}
use Rattle.mukerihe.proofs.element_count.Goals as goal

pub returns-then-bytes : goal.returns-then-bytes
unfolding whole_elements
returns-then-bytes c = rw c.if-bytes.true

pub returns-else-bytes : goal.returns-else-bytes
unfolding whole_elements
returns-else-bytes c = rw c.if-bytes.false
