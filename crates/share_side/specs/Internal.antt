-- How the code holds a side and its weights.
--
--   plan_side m plan        == the side of matrix A or B, by an accepted job's plan
--   Small s                == the limits that a side of an accepted job keeps
--   weight_count s          == how many weights a side has
--   weight q strides series x k l == a weight: the point x to the exponent at row k and column l, modulo q
--   weighed q strides series k x out == a list with the weights of row k of the blocks, or of the masks, written over it, of at
--                             most 256 columns
--   side_weights q strides s x == the weights of a side: of the blocks, row by row, and then of the masks
use Rattle.std.specs.Prelude.{List, ◌++◌, ℕ, ◌+◌, ◌*◌, ◌^◌, ◌%◌, ◌≤◌, min, length, drop}
use Rattle.algebra.specs.Lists.{tab, grid}
use Rattle.refusal.specs.Limits.{most_elements}
use Rattle.layout.specs.declared.Series.{Series}
use Rattle.layout.specs.declared.Strides.{Strides}
use Rattle.layout.specs.Internal.{exponent_by}
use Rattle.plan.specs.declared.Plan.{Plan}
use Rattle.share_side.specs.declared.Matrix.{Matrix}
use Rattle.share_side.specs.declared.Side.{Side}
use Rattle.share_side.specs.Sides.{cut_side}

unfoldable pub plan_side : Matrix → Plan → Side
plan_side m plan = cut_side m plan.parameters plan.rows plan.inner plan.columns

pub record Small (s : Side) : Type 0 where
  pub grid_rows : s.grid_rows ≤ 8
  pub grid_columns : s.grid_columns ≤ 8
  pub rows_in_block : s.block_rows ≤ most_elements
  pub columns_in_block : s.block_columns ≤ most_elements
  pub block : s.block_rows * s.block_columns ≤ most_elements
  pub masked : 1 ≤ s.mask_count
  pub mask_count : s.mask_count ≤ 16

unfoldable pub weight_count : Side → ℕ
weight_count s = s.grid_rows * s.grid_columns + s.mask_count

abbrev pub weight : ℕ → Strides → Series → ℕ → ℕ → ℕ → ℕ
weight q strides series x k l = x ^ exponent_by strides series k l % q

unfoldable pub weighed : ℕ → Strides → Series → ℕ → ℕ → List ℕ → List ℕ
weighed q strides series k x out =
    let n = min (length out) 256 in
    tab (weight q strides series x k) n ++ drop n out

unfoldable pub side_weights : ℕ → Strides → Side → ℕ → List ℕ
side_weights q strides s x =
    grid (weight q strides s.blocks x) s.grid_rows s.grid_columns
    ++ tab (weight q strides s.masks x 0) s.mask_count
