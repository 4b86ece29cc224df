-- A table put together from answers by given weights.
-- The table has grid_rows by grid_columns blocks, each block_rows by block_columns. The answers are blocks of that size, one after
-- another in a store; an index is an answer's number there, from 0. Each index has a weight for each of the table's blocks, index
-- by index. A list reads as 0 past its end.
-- A piece of the table is what one of its rows has in one of its blocks. Pieces are numbered from 0, row by row; so are the
-- table's blocks.
--
--   block_count, block_length, piece_count == how many blocks the table has, elements a block, and pieces the table
--   piece_block, piece_row s w      == the block in which a piece lies, and its row in it
--   answer_term weights step indices source size v c == element v of the answer of index number c, times its weight: the weights
--                                    lie a step apart, the answers a size
--   answers_added q sums weights step indices source size == each sum, plus the total of these at its own v, in 64 bits
--   piece_term s indices weights store w v c == the same at v of piece w
--   piece_sum q s indices weights store w v == their total
--   pieces_of q s indices weights store == the table, piece by piece: the sums, of 64 bits, modulo q
--   sizes_test s count             == a size of the table, or the number of indices, is not 1 to 4096
--   misfit s count weights sums room == that, or there is not a weight for each index and block, a sum for each column, and
--                                    room for each element
--   table_after q s indices weights store sums table == what the table then holds, if so many sums are lent
--   Sized s count                 == what the code asks of the sizes
--   Weighted s indices weights    == that, and the weights are there
--   There weights step indices size == these weights are there, and an answer is not too long
use Rattle.std.specs.Prelude.{◌≡◌, Bool, cond, ◌||◌, List, ℕ, ◌+◌, ◌*◌, ◌/◌, ◌%◌, ◌^◌, ◌<◌, ◌≤◌, length, get_or, drop}
use Rattle.algebra.specs.Lists.{tab, grid, entry}
use Rattle.refusal.specs.Chain.{outside, differs}
use Rattle.refusal.specs.Limits.{most_elements}
use Rattle.sums_modular.specs.Internal.{total}
use Rattle.decode_table.specs.declared.Shape.{Shape}

unfoldable pub block_count : Shape → ℕ
block_count s = s.grid_rows * s.grid_columns

unfoldable pub block_length : Shape → ℕ
block_length s = s.block_rows * s.block_columns

unfoldable pub piece_count : Shape → ℕ
piece_count s = s.grid_rows * s.block_rows * s.grid_columns

-- ---- the table

unfoldable pub piece_block : Shape → ℕ → ℕ
piece_block s w = w / s.grid_columns / s.block_rows * s.grid_columns + w % s.grid_columns

unfoldable pub piece_row : Shape → ℕ → ℕ
piece_row s w = w / s.grid_columns % s.block_rows

unfoldable pub answer_term : List ℕ → ℕ → List ℕ → List ℕ → ℕ → ℕ → ℕ → ℕ
answer_term weights step indices source size v c = get_or weights (c * step) 0 * entry size source (get_or indices c 0) v

unfoldable pub answers_added : ℕ → List ℕ → List ℕ → ℕ → List ℕ → List ℕ → ℕ → List ℕ
answers_added q sums weights step indices source size =
    tab (λ v. (get_or sums v 0 + total q (length indices) (answer_term weights step indices source size v)) % 2 ^ 64) (length sums)

unfoldable pub piece_term : Shape → List ℕ → List ℕ → List ℕ → ℕ → ℕ → ℕ → ℕ
piece_term s indices weights store w v =
    let own = drop (piece_block s w) weights in
    let rows = drop (piece_row s w * s.block_columns) store in
    answer_term own (block_count s) indices rows (block_length s) v

unfoldable pub piece_sum : ℕ → Shape → List ℕ → List ℕ → List ℕ → ℕ → ℕ → ℕ
piece_sum q s indices weights store w v = total q (length indices) (piece_term s indices weights store w v)

unfoldable pub pieces_of : ℕ → Shape → List ℕ → List ℕ → List ℕ → List ℕ
pieces_of q s indices weights store = grid (λ w v. piece_sum q s indices weights store w v % 2 ^ 64 % q) (piece_count s) s.block_columns

-- ---- what does not fit

unfoldable pub sizes_test : Shape → ℕ → Bool
sizes_test s count =
    outside 1 most_elements s.grid_rows || outside 1 most_elements s.grid_columns
    || (outside 1 most_elements s.block_rows || outside 1 most_elements s.block_columns)
    || outside 1 most_elements count

-- how many indices, weights and sums there are, and how many elements there is room for
unfoldable pub misfit : Shape → ℕ → ℕ → ℕ → ℕ → Bool
misfit s count weights sums room =
    sizes_test s count
    || (differs weights (count * block_count s) || differs sums s.block_columns || differs room (piece_count s * s.block_columns))

unfoldable pub table_after : ℕ → Shape → List ℕ → List ℕ → List ℕ → ℕ → List ℕ → List ℕ
table_after q s indices weights store sums table =
    cond (misfit s (length indices) (length weights) sums (length table)) table (pieces_of q s indices weights store)

-- ---- what the code asks

pub record Sized (s : Shape) (count : ℕ) : Type 0 where
  pub split : 1 ≤ s.grid_columns
  pub tall : 1 ≤ s.block_rows
  pub some : 1 ≤ count
  pub grid_rows : s.grid_rows ≤ most_elements
  pub grid_columns : s.grid_columns ≤ most_elements
  pub rows_in_block : s.block_rows ≤ most_elements
  pub columns_in_block : s.block_columns ≤ most_elements
  pub few : count ≤ most_elements

pub record Weighted (s : Shape) (indices weights : List ℕ) : Type 0 where
  pub sized : Sized s (length indices)
  pub each : length weights ≡ length indices * block_count s

pub record There (weights : List ℕ) (step : ℕ) (indices : List ℕ) (size : ℕ) : Type 0 where
  pub weight : (c : ℕ) → c < length indices → c * step < length weights
  pub short : size ≤ most_elements * most_elements
