-- `layout::strides_of` meets its contract.
use Rattle.layout.specs.Exponents.{exponents}
use Rattle.layout.proofs.Nests.{follows_first, follows_second}
use Rattle.layout.proofs.strides_of.Goals as goal

pub returns-in-First : goal.returns-in-First
returns-in-First c = rw c.in-First.is (follows_first _ _ c.nested.ensures)

pub returns-in-Second : goal.returns-in-Second
returns-in-Second c = rw c.in-Second.is (follows_second _ _ c.nested-s.ensures)

pub returns-in-Third : goal.returns-in-Third
unfolding exponents
returns-in-Third c = rw c.in-Third.is c.masks_last.ensures
