-- `page::Table::put_page` meets its contract.
use mathlib.Core.List.{◌++◌}
use Rattle.algebra.specs.Lists.{stack}
use Rattle.text.specs.Internal.{Writes}
use Rattle.page.specs.Page.{panel, gap}
use Rattle.page.proofs.Table.put_page.Given as goal

abbrev pub invariant-loop-p : goal.invariant-loop-p
invariant-loop-p l =
    let t = l.self in Writes l.initial.w (stack (λ k. gap k ++ panel t.rows t.columns t.elements.now k) l.p) l.w
