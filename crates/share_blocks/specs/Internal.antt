-- How the code encodes: each block of a matrix and each mask times its weight, summed into one block.
-- k, i, j count from 0: k is a row of blocks, i and j are an element's row and column in a block.
--
--   beyond s                == a side is beyond the limits of an accepted job
--   encode_tests q s xs ms room == the tests of encoding: 6 of a side beyond the limits, and those of its matrix and masks
--   Encodable s w xs ms     == weights, a matrix and masks of a side within the limits, of the right lengths
--   block_terms q s w xs i j == the blocks' part of the sum at i, j: each row of blocks has one row of the matrix in it
--   mask_terms q s w ms i j  == the masks' part
--   row_sums q s w xs ms i j == both
--   encoded_block q s w xs ms == these sums, in 64 bits and then modulo q, row by row
--   encoded q s w xs ms out == what the output then holds
use Rattle.std.specs.Prelude.{◌≡◌, Bool, ◌||◌, List, ◌∷◌, ℕ, ◌+◌, ◌*◌, ◌^◌, ◌%◌, ◌≤◌, ltb, length, take, drop}
use Rattle.algebra.specs.Lists.{grid}
use Rattle.algebra.specs.Sums.{sum}
use Rattle.refusal.specs.Chain.{Test, outside, unless_refused}
use Rattle.refusal.specs.Limits.{most_elements}
use Rattle.sums_modular.specs.Internal.{combination}
use Rattle.share_side.specs.declared.Side.{Side}
use Rattle.share_side.specs.Sides.{block_length, matrix_length, mask_length, matrix_tests}
use Rattle.share_side.specs.Internal.{Small, weight_count}

unfoldable pub beyond : Side → Bool
beyond s =
    ltb most_elements s.block_rows
    || ltb most_elements s.block_columns
    || (ltb 8 s.grid_rows || ltb 8 s.grid_columns || outside 1 16 s.mask_count || ltb most_elements (block_length s))

unfoldable pub encode_tests : ℕ → Side → List ℕ → List ℕ → ℕ → List Test
encode_tests q s xs ms room = (beyond s, 6) ∷ matrix_tests q s xs ms room

pub record Encodable (s : Side) (w xs ms : List ℕ) : Type 0 where
  pub small : Small s
  pub weights : weight_count s ≤ length w
  pub matrix : length xs ≡ matrix_length s
  pub masks : length ms ≡ mask_length s

unfoldable pub block_terms : ℕ → Side → List ℕ → List ℕ → ℕ → ℕ → ℕ
block_terms q s w xs i j =
    let columns = s.grid_columns in
    sum s.grid_rows (λ k.
    combination q (take columns (drop (k * columns) w)) (drop ((k * s.block_rows + i) * (columns * s.block_columns)) xs)
    s.block_columns j)

unfoldable pub mask_terms : ℕ → Side → List ℕ → List ℕ → ℕ → ℕ → ℕ
mask_terms q s w ms i j =
    let own = take s.mask_count (drop (s.grid_rows * s.grid_columns) w) in
    combination q own (drop (i * s.block_columns) ms) (s.block_rows * s.block_columns) j

unfoldable pub row_sums : ℕ → Side → List ℕ → List ℕ → List ℕ → ℕ → ℕ → ℕ
row_sums q s w xs ms i j = block_terms q s w xs i j + mask_terms q s w ms i j

unfoldable pub encoded_block : ℕ → Side → List ℕ → List ℕ → List ℕ → List ℕ
encoded_block q s w xs ms = grid (λ i j. row_sums q s w xs ms i j % 2 ^ 64 % q) s.block_rows s.block_columns

unfoldable pub encoded : ℕ → Side → List ℕ → List ℕ → List ℕ → List ℕ → List ℕ
encoded q s w xs ms out = unless_refused (encode_tests q s xs ms (length out)) (encoded_block q s w xs ms) out
