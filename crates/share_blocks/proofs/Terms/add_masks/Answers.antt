-- `share_blocks::Terms::add_masks` meets its contract.
use mathlib.Core.Path.{◌≡◌, ap₂, ◌∙◌}
use mathlib.Core.List.{List}
use Prim.Native.Nat.{ℕ, ◌+◌, ◌-◌, ◌*◌}
use native.Mathlib.Nat.{add-sub_cancel_left}
use native.Mathlib.Omega.{arith}
use lib.ListN.{take, drop}
use Rattle.algebra.proofs.Lists.{rest_is}
use Rattle.field.specs.Modulus.{prime}
use Rattle.sums_folded.specs.Internal.{paired_added}
use Rattle.sums_modular.specs.Internal.{added}
use Rattle.share_side.proofs.Parts.{masks_part}
use Rattle.share_blocks.specs.Internal.{mask_terms}
use Rattle.share_blocks.proofs.Offsets.{mask_row}
use Rattle.share_blocks.proofs.Terms.add_masks.Goals as goal

pub slice_bounds-add_rows-end : goal.slice_bounds-add_rows-end
slice_bounds-add_rows-end c = let e = c.args.self.now.encodable in omega (arith, masks_part _ e.small _ e.weights)

pub slice_bounds-add_rows-count-2 : goal.slice_bounds-add_rows-count-2
slice_bounds-add_rows-count-2 c = let e = c.args.self.now.encodable in mask_row _ e.small _ _ c.requires e.masks

pub slice_bounds-add_rows-start-2 : goal.slice_bounds-add_rows-start-2
slice_bounds-add_rows-start-2 c = let e = c.args.self.now.encodable in mask_row _ e.small _ _ c.requires e.masks

pub returns : goal.returns
unfolding mask_terms paired_added
returns c =
    let t = c.args.self.now in
    let n = t.side.grid_rows * t.side.grid_columns in
    let from = c.args.i * t.side.block_columns in
    let ws : take (n + t.side.mask_count - n) (drop n t.weights.now) ≡ take t.side.mask_count (drop n t.weights.now) = rw add-sub_cancel_left in
    c.add_rows.ensures ∙ ap₂ (λ (w m : List ℕ). added (prime t.modulus) c.args.sums.now w m (t.side.block_rows * t.side.block_columns)) ws (rest_is t.masks.now from)
