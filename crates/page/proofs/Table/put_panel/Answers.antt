-- `page::Table::put_panel` meets its contract.
use mathlib.Core.Path.{◌≡◌, refl}
use Prim.Native.Nat.{◌+◌, ◌-◌, ◌*◌, ◌≤◌}
use native.Mathlib.Numerals.{add-one}
use native.Mathlib.Nat.{mul-le-mul}
use native.Mathlib.Omega.{arith}
use lib.ListN.{length}
use Rattle.algebra.specs.Lists.{stack}
use Rattle.algebra.proofs.Orders.{row_end}
use Rattle.text.proofs.Writes.{then, same}
use Rattle.page.specs.Page.{across}
use Rattle.page.proofs.Lines.{across_fits, row_is}
use Rattle.page.proofs.Table.put_panel.Goals as goal
use Rattle.page.proofs.Table.put_panel.Goals.{In-loop-i}

-- a row's part of the table is inside it
inside : (c : In-loop-i) → let t = c.args.self.now in
    c.loop-i.i * t.columns + c.args.p * 6 + across t.columns c.args.p ≤ length t.elements.now
inside c =
    let t = c.args.self.now in
    omega (arith, row_end t.columns c.loop-i-test.true, across_fits t.columns c.args.p c.requires, t.whole)

pub overflow_add-end : goal.overflow_add-end
overflow_add-end c =
    let t = c.args.self.now in
    let within = inside (goal.at.overflow_add-end c).In-loop-i in
    omega (arith, mul-le-mul t.tall t.wide, t.whole, c.panel_width-count.ensures)

pub slice_bounds-put_row-end : goal.slice_bounds-put_row-end
slice_bounds-put_row-end c = let t = inside (goal.at.slice_bounds-put_row-end c).In-loop-i in omega (arith, c.panel_width-count.ensures)

pub loop-i-preserved : goal.loop-i-preserved
unfolding stack
loop-i-preserved c =
    let t = c.args.self.now in
    let p = c.args.p in
    let l = c.loop-i in
    let within = inside (goal.at.loop-i-preserved c).In-loop-i in
    let start = l.i * t.columns + p * 6 in
    let wide : start + c.panel_width-count.result - start ≡ across t.columns p = omega (arith, c.panel_width-count.ensures) in
    let one = row_is t.columns t.elements.now p l.i {start = start} refl wide (omega arith) in
    rw add-one (then l.invariant (same one c.put_row.ensures))
