-- `share_blocks::Terms::add_blocks` meets its contract.
use mathlib.Core.Path.{◌≡◌, refl, ap, ap₂, ◌∙◌}
use mathlib.Core.List.{List}
use Prim.Native.Nat.{ℕ, ◌+◌, ◌-◌, ◌*◌, ◌≤◌}
use native.Mathlib.Nat.{add-sub_cancel_left}
use native.Mathlib.Omega.{arith}
use lib.ListN.{length, take, drop}
use Rattle.algebra.proofs.Lists.{rest_is}
use Rattle.field.specs.Modulus.{prime}
use Rattle.sums.proofs.Steps.{sums_to, sums_none, sums_more}
use Rattle.sums_folded.specs.Internal.{paired_added}
use Rattle.sums_modular.specs.Internal.{added}
use Rattle.share_side.proofs.Parts.{row_part}
use Rattle.share_blocks.specs.Internal.{block_terms}
use Rattle.share_blocks.proofs.Offsets.{row_at, row_offset}
use Rattle.share_blocks.proofs.Terms.add_blocks.Invariants.{part}
use Rattle.share_blocks.proofs.Terms.add_blocks.Goals as goal
use Rattle.share_blocks.proofs.Terms.add_blocks.Goals.{In-loop-k}

pub loop-k-init : goal.loop-k-init
loop-k-init c = sums_none c.args.sums.now _ (λ j l. (c.type_inv.sums j).fits)

-- row i of row k of the blocks
matrix-row : (c : In-loop-k) → let s = c.args.self.now.side in
    (c.loop-k.k * s.block_rows + c.args.i) * (s.grid_columns * s.block_columns) ≤ length c.args.self.now.xs.now
matrix-row c = let e = c.args.self.now.encodable in row_at _ e.small _ _ _ c.loop-k-test.true c.requires e.matrix

pub slice_bounds-add_rows-end : goal.slice_bounds-add_rows-end
slice_bounds-add_rows-end c = let e = c.args.self.now.encodable in omega (arith, row_part _ e.small _ e.weights _ c.loop-k-test.true)

pub offset_bounds-xs-from : goal.offset_bounds-xs-from
offset_bounds-xs-from c = let e = c.args.self.now.encodable in row_offset _ e.small _ _ (matrix-row (goal.at.offset_bounds-xs-from c).In-loop-k) e.matrix

pub slice_bounds-add_rows-count-in-loop-k : goal.slice_bounds-add_rows-count-in-loop-k
slice_bounds-add_rows-count-in-loop-k c = matrix-row (goal.at.slice_bounds-add_rows-count-in-loop-k c).In-loop-k

pub slice_bounds-add_rows-start-in-loop-k : goal.slice_bounds-add_rows-start-in-loop-k
slice_bounds-add_rows-start-in-loop-k c = matrix-row (goal.at.slice_bounds-add_rows-start-in-loop-k c).In-loop-k

pub loop-k-preserved : goal.loop-k-preserved
unfolding paired_added
loop-k-preserved c =
    let t = c.args.self.now in
    let k = c.loop-k.k in
    let n = t.side.grid_columns in
    let parts = part t c.args.i in
    let row : take (k * n + n - k * n) (drop (k * n) t.weights.now) ≡ take n (drop (k * n) t.weights.now) = rw add-sub_cancel_left in
    c.add_rows.ensures
    ∙ ap₂ (λ (w m : List ℕ). added (prime t.modulus) c.loop-k.sums w m t.side.block_columns) row
    (rest_is t.xs.now ((k * t.side.block_rows + c.args.i) * (n * t.side.block_columns)))
    ∙ sums_more c.args.sums.now parts c.loop-k.sums (parts k) k c.loop-k.invariant (λ j. refl)

pub returns : goal.returns
unfolding block_terms sums_to
returns c =
    let t = c.args.self.now in
    let all : c.loop-k.k ≡ t.side.grid_rows = omega arith in
    c.loop-k.invariant ∙ ap (sums_to c.args.sums.now (part t c.args.i)) all
