-- `page::Table::put_heading` meets its contract.
use mathlib.Core.Path.{sym, ap, ◌∙◌}
use Prim.Native.Nat.{ℕ, ◌+◌, ◌*◌, ◌≤◌}
use native.Mathlib.Omega.{arith}
use lib.ListN.{length}
use lib.Seq.{length-take-le}
use Rattle.algebra.specs.Lists.{tab}
use Rattle.algebra.proofs.Lists.{length_tab}
use Rattle.text.proofs.Writes.{then, same}
use Rattle.page.specs.Page.{spaces, line}
use Rattle.page.specs.Internal.{line_of}
use Rattle.page.proofs.Lines.{across_fits, heading_is}
use Rattle.page.proofs.Table.put_heading.Goals as goal
use Rattle.page.proofs.Table.put_heading.Goals.{After-panel_width-count}

-- no panel has more than six columns
room : (c : After-panel_width-count) → c.panel_width-count.result ≤ length c.six_columns-columns.result
room c =
    let p = c.args.p in
    let six = ap length c.six_columns-columns.ensures ∙ length_tab (λ (k : ℕ). p * 6 + k + 1) 6 in
    omega (arith, six, c.panel_width-count.ensures, across_fits c.args.self.now.columns p c.requires)

pub slice_bounds-columns-end : goal.slice_bounds-columns-end
slice_bounds-columns-end c = room (goal.at.slice_bounds-columns-end c).After-panel_width-count

pub slice_bounds-put_numbers-end : goal.slice_bounds-put_numbers-end
slice_bounds-put_numbers-end c = sym (length-take-le _ _ (room (goal.at.slice_bounds-put_numbers-end c).After-panel_width-count))

-- spaces, and the column numbers
pub returns : goal.returns
unfolding line_of line spaces tab
returns c =
    let a = c.args in
    same (heading_is a.self.now.columns a.p c.six_columns-columns.result c.requires c.six_columns-columns.ensures c.panel_width-count.ensures)
    (then c.put.ensures.written c.put_numbers.ensures)
