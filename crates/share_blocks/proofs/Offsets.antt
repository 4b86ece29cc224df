-- Where the parts of a side lie, and that they are there.
--
--   row_at            row i of row k of the blocks begins in the matrix
--   row_offset        and so does its offset, in bytes: it fits 64 bits
--   mask_row, block_row  row i of the masks begins in them, and row i of a block ends in it
use mathlib.Core.Path.{◌≡◌}
use Prim.Native.Nat.{ℕ, ◌+◌, ◌*◌, ◌<◌, ◌≤◌}
use native.Mathlib.Nat.{mul-le-mul, mul-le-mul_right}
use native.Mathlib.Omega.{arith}
use mir.Syntax.{w64}
use mir.Val.{Fits}
use Rattle.algebra.proofs.Orders.{row_end}
use Rattle.share_side.specs.declared.Side.{Side}
use Rattle.share_side.specs.Sides.{block_length, matrix_length, mask_length}
use Rattle.share_side.specs.Internal.{Small}

module _ (s : Side) (small : Small s) where
  pub row_at : (k i room : ℕ) → k < s.grid_rows → i < s.block_rows → room ≡ matrix_length s
      → (k * s.block_rows + i) * (s.grid_columns * s.block_columns) ≤ room
  unfolding matrix_length block_length
  row_at k i room hk hi size =
      let last = row_end s.block_rows hk in
      let inside : k * s.block_rows + i < s.grid_rows * s.block_rows = omega arith in
      let end = row_end (s.grid_columns * s.block_columns) inside in
      omega arith

  pub row_offset : (from room : ℕ) → from ≤ room → room ≡ matrix_length s → Fits w64 (from * 4)
  unfolding matrix_length block_length
  row_offset from room h size = record { fits = omega (arith, mul-le-mul (mul-le-mul small.grid_rows small.grid_columns) small.block) }

  pub mask_row : (i room : ℕ) → i < s.block_rows → room ≡ mask_length s → i * s.block_columns ≤ room
  unfolding mask_length block_length
  mask_row i room h size =
      let end = row_end s.block_columns h in
      let all = mul-le-mul_right (s.block_rows * s.block_columns) small.masked in
      omega arith

  pub block_row : (i room : ℕ) → i < s.block_rows → room ≡ block_length s → i * s.block_columns + s.block_columns ≤ room
  unfolding block_length
  block_row i room h size = let end = row_end s.block_columns h in omega arith
