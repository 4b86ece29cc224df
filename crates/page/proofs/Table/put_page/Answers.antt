-- `page::Table::put_page` meets its contract.
use native.Mathlib.Numerals.{add-one}
use Rattle.algebra.specs.Lists.{stack}
use Rattle.text.proofs.Writes.{then}
use Rattle.page.proofs.Table.put_page.Goals as goal

pub loop-p-preserved : goal.loop-p-preserved
unfolding stack
loop-p-preserved c = rw add-one (then c.loop-p.invariant (then c.put_gap.ensures c.put_panel.ensures))
