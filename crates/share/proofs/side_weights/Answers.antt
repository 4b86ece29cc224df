-- `share::side_weights` meets its contract.
use mathlib.Core.Path.{◌≡◌, ap, ◌∙◌}
use mathlib.Core.List.{◌++◌}
use Prim.Native.Nat.{ℕ, ◌+◌, ◌*◌, ◌≤◌}
use native.Mathlib.Nat.{add-sub_cancel_left}
use native.Mathlib.Omega.{arith}
use lib.ListN.{length, drop}
use Rattle.algebra.specs.Lists.{grid}
use Rattle.algebra.proofs.Grids.{length_grid, rows_none, rows_more}
use Rattle.field.specs.Modulus.{prime}
use Rattle.share_side.specs.Internal.{weight_count, weight, side_weights}
use Rattle.share_side.proofs.Parts.{weighed_part, row_part, masks_part, weights_end}
use Rattle.share.proofs.side_weights.Goals as goal
use Rattle.share.proofs.side_weights.Goals.{After-loop-k, In-loop-k}

pub loop-k-init : goal.loop-k-init
loop-k-init c = rows_none _ c.args.weights.now c.args.s.grid_columns

-- the weights of row k lie in the list
row : (c : In-loop-k) → c.loop-k.k * c.args.s.grid_columns + c.args.s.grid_columns ≤ length c.loop-k.weights
row c = row_part c.args.s c.requires.0 _ (omega (arith, c.requires.1)) _ c.loop-k-test.true

pub slice_bounds-row-end : goal.slice_bounds-row-end
slice_bounds-row-end c = omega (arith, row (goal.at.slice_bounds-row-end c).In-loop-k)

pub loop-k-preserved : goal.loop-k-preserved
loop-k-preserved c =
    let a = c.args in
    rw add-sub_cancel_left
    (rows_more (weight (prime a.modulus) a.strides a.s.blocks a.x) a.weights.now c.loop-k.weights _ a.s.grid_columns c.loop-k.k c.loop-k.invariant
    (c.weigh.ensures ∙ weighed_part _ _ _ _ _ _ _ _ (row (goal.at.loop-k-preserved c).In-loop-k) (omega (arith, c.requires.0.grid_columns))))

-- the weights of the masks lie in the list
masks : (c : After-loop-k) → c.args.s.grid_rows * c.args.s.grid_columns + c.args.s.mask_count ≤ length c.loop-k.weights
masks c = masks_part c.args.s c.requires.0 _ (omega (arith, c.requires.1))

pub slice_bounds-weigh-end : goal.slice_bounds-weigh-end
slice_bounds-weigh-end c = omega (arith, masks (goal.at.slice_bounds-weigh-end c).After-loop-k)

pub returns : goal.returns
unfolding side_weights weight_count
returns c =
    let l = c.loop-k in
    let a = c.args in
    let all : l.k ≡ a.s.grid_rows = omega arith in
    let blocks = weight (prime a.modulus) a.strides a.s.blocks a.x in
    weights_end (grid blocks a.s.grid_rows a.s.grid_columns) _ a.weights.now l.weights _ (a.s.grid_rows * a.s.grid_columns) a.s.mask_count
    (length_grid blocks a.s.grid_rows a.s.grid_columns)
    (l.invariant ∙ ap (λ (k : ℕ). grid blocks k a.s.grid_columns ++ drop (k * a.s.grid_columns) a.weights.now) all)
    (c.weigh-2.ensures ∙ weighed_part _ _ _ _ _ _ _ _ (masks (goal.at.returns c).After-loop-k) (omega (arith, c.requires.0.mask_count)))
