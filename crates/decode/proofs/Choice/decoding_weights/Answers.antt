-- `decode::Choice::decoding_weights` meets its contract.
use mathlib.Core.Path.{◌≡◌, ap, ◌∙◌}
use mathlib.Core.List.{List, ◌++◌}
use Prim.Native.Nat.{ℕ, ◌+◌, ◌*◌, ◌≤◌}
use native.Mathlib.Nat.{add-sub_cancel_left}
use native.Mathlib.Omega.{arith}
use lib.ListN.{length, get_or, drop, replicate, length-drop}
use lib.Seq.{length-take-le}
use Rattle.algebra.specs.Lists.{tab, grid}
use Rattle.algebra.proofs.Orders.{row_end}
use Rattle.algebra.proofs.Grids.{rows_none, rows_more, rows_all}
use Rattle.field.specs.Modulus.{prime}
use Rattle.decode_basis.specs.Internal.{coefficients, root_product}
use Rattle.decode_table.specs.Internal.{block_count}
use Rattle.decode.specs.Internal.{shape, host_weight, decoding_weights}
use Rattle.decode.proofs.Choice.decoding_weights.Invariants.{value}
use Rattle.decode.proofs.Choice.decoding_weights.Goals as goal
use Rattle.decode.proofs.Choice.decoding_weights.Goals.{In-loop-c}

pub loop-c-init : goal.loop-c-init
loop-c-init c = let g = c.args.self.now.plan.parameters in rows_none _ c.args.weights.now (g.m * g.n)

-- the next host's weights lie among the weights
inside : (c : In-loop-c) → let blocks = block_count (shape c.args.self.now.plan) in c.loop-c.c * blocks + blocks ≤ length c.loop-c.weights
inside c = omega (arith, c.requires, row_end (block_count (shape c.args.self.now.plan)) c.loop-c-test.true)

pub slice_bounds-host_weights-end : goal.slice_bounds-host_weights-end
unfolding block_count shape
slice_bounds-host_weights-end c = omega (arith, inside (goal.at.slice_bounds-host_weights-end c).In-loop-c)

pub host_weights-requires : goal.host_weights-requires
unfolding block_count shape
host_weights-requires c =
    let g = c.args.self.now.plan.parameters in
    let l = c.loop-c in
    let part = length-take-le (g.m * g.n) (drop (l.c * (g.m * g.n)) l.weights) (omega (arith, inside (goal.at.host_weights-requires c).In-loop-c, length-drop (l.c * (g.m * g.n)) l.weights)) in
    (c.strides_of-strides.ensures, rw add-sub_cancel_left part)

pub loop-c-preserved : goal.loop-c-preserved
unfolding block_count shape
loop-c-preserved c =
    let a = c.args in
    let t = a.self.now in
    let points = t.points.now in
    let q = prime t.plan.modulus in
    let blocks = t.plan.parameters.m * t.plan.parameters.n in
    let l = c.loop-c in
    let few : length points + 1 ≤ 65 = omega (arith, t.roomy.few) in
    let roots = c.from_roots.ensures ∙ ap (coefficients q (root_product q points)) (length-take-le (length points + 1) (replicate 65 0) few) in
    let row = c.host_weights.ensures ∙ ap (λ (rs : List ℕ). tab (host_weight t.plan (get_or points l.c 0) points rs) blocks) roots in
    rw add-sub_cancel_left (rows_more (value t.plan points) a.weights.now l.weights _ blocks l.c l.invariant row)

pub returns : goal.returns
unfolding decoding_weights block_count shape
returns c =
    let a = c.args in
    let t = a.self.now in
    let points = t.points.now in
    let blocks = t.plan.parameters.m * t.plan.parameters.n in
    let all : c.loop-c.c ≡ length points = omega arith in
    rows_all (value t.plan points) a.weights.now c.loop-c.weights (length points) blocks c.requires
    (c.loop-c.invariant ∙ ap (λ (k : ℕ). grid (value t.plan points) k blocks ++ drop (k * blocks) a.weights.now) all)
