-- `lister::all_points` meets its contract.
use Rattle.std.proofs.Common.{◌≡◌, ◌+◌, ℕ, suc, add-one, refl, sym, subst, set, take, arith}
use Rattle.algebra.specs.Lists.{tab}
use Rattle.algebra.proofs.Lists.{fill_more}
use Rattle.lister.proofs.all_points.Goals as goal

pub loop-i-init : goal.loop-i-init
unfolding tab
loop-i-init c = refl

pub loop-i-preserved : goal.loop-i-preserved
loop-i-preserved c =
    let points = c.loop-i.point-items in
    let i = c.loop-i.i in
    subst (λ (v : ℕ). take (i + 1) (set points i v) ≡ tab suc (i + 1)) (sym (add-one i)) (fill_more suc points i (omega arith) c.loop-i.invariant)
