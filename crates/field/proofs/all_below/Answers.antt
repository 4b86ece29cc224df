-- `field::all_below` meets its contract.
use mathlib.Core.Path.{sym, ap₂, ◌∙◌}
use mathlib.Core.Bool.{◌&&◌}
use native.Mathlib.Omega.{arith}
use lib.Dec.{leb}
use lib.ListN.{get_or}
use Rattle.algebra.proofs.Tests.{neither, not_leb}
use Rattle.algebra.proofs.Lists.{below_none, below_step, below_all}
use Rattle.field.proofs.all_below.Goals as goal

pub loop-x-init : goal.loop-x-init
loop-x-init c = sym (below_none c.prime_of-q.result c.args.xs.now)

pub loop-x-preserved : goal.loop-x-preserved
loop-x-preserved c =
    let xs = c.args.xs.now in
    let q = c.prime_of-q.result in
    let i = c.loop-x.x-index in
    neither c.loop-x.over (leb q (get_or xs i 0))
    ∙ ap₂ ◌&&◌ c.loop-x.invariant (not_leb q (get_or xs i 0))
    ∙ sym (below_step q xs i (omega arith))

pub returns : goal.returns
returns c =
    rw (← c.prime_of-q.ensures) (c.loop-x.invariant ∙ sym (below_all c.prime_of-q.result c.args.xs.now c.loop-x.x-index (omega arith)))
