-- `page::Table::put_panel` meets its contract.
use Rattle.algebra.specs.Lists.{stack}
use Rattle.text.specs.Internal.{Writes}
use Rattle.page.specs.Page.{row}
use Rattle.page.proofs.Table.put_panel.Given as goal

abbrev pub invariant-loop-i : goal.invariant-loop-i
invariant-loop-i l = Writes l.initial.w (stack (row l.self.columns l.elements l.p) l.i) l.w
