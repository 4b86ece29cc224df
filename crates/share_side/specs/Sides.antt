-- The sides of a job (01, "The job" and "What is turned down", Share): the matrix A is cut into m by p blocks, B into p by n.
--
--   cut_side m g rows inner columns == the side of matrix A or B, by the cuts and group sizes g and the sizes of blocks: its grid
--                     of blocks, the size of a block, the number of its masks, and the series of the exponents of its blocks and
--                     masks
--   side m job     == the side of a job's matrix
--   side_exponents e s == the exponents of a side: of its blocks, row by row, and then of its masks
--   block_length s, matrix_length s, mask_length s == how many elements a block has, the matrix, and all its masks together
--   matrix_tests q s xs ms room == the tests 13 to 15 of a side's matrix xs and masks ms, and of the room for one block
use Rattle.std.specs.Prelude.{not, ◌||◌, List, [], ◌∷◌, ◌++◌, ℕ, ◌*◌, length}
use Rattle.algebra.specs.Lists.{tab, grid, all_below}
use Rattle.refusal.specs.Chain.{Test, differs}
use Rattle.layout.specs.declared.Parameters.{Parameters}
use Rattle.layout.specs.declared.Series.TheVariants.{BlocksA, MasksA, BlocksB, MasksB}
use Rattle.layout.specs.Exponents.{Exponents, term}
use Rattle.plan.specs.declared.Job.{Job}
use Rattle.plan.specs.Planning.{parameters, block_rows, block_inner, block_columns}
use Rattle.share_side.specs.declared.Matrix.{Matrix}
use Rattle.share_side.specs.declared.Matrix.TheVariants.{A, B}
use Rattle.share_side.specs.declared.Side.{Side}

abbrev pub cut_side : Matrix → Parameters → ℕ → ℕ → ℕ → Side
cut_side A g rows inner columns = record {
  grid_rows = g.m;
  grid_columns = g.p;
  block_rows = rows;
  block_columns = inner;
  mask_count = g.xa;
  blocks = BlocksA;
  masks = MasksA;
}
cut_side B g rows inner columns = record {
  grid_rows = g.p;
  grid_columns = g.n;
  block_rows = inner;
  block_columns = columns;
  mask_count = g.xb;
  blocks = BlocksB;
  masks = MasksB;
}

unfoldable pub side : Matrix → Job → Side
side m job = cut_side m (parameters job) (block_rows job) (block_inner job) (block_columns job)

unfoldable pub side_exponents : Exponents → Side → List ℕ
side_exponents e s =
    grid (term e s.blocks) s.grid_rows s.grid_columns ++ tab (term e s.masks 0) s.mask_count

unfoldable pub block_length : Side → ℕ
block_length s = s.block_rows * s.block_columns

unfoldable pub matrix_length : Side → ℕ
matrix_length s = s.grid_rows * s.grid_columns * block_length s

unfoldable pub mask_length : Side → ℕ
mask_length s = s.mask_count * block_length s

-- 13: the matrix, the masks or the output is not of exact length; 14 and 15: an element of the matrix, of a mask, is not below q
unfoldable pub matrix_tests : ℕ → Side → List ℕ → List ℕ → ℕ → List Test
matrix_tests q s xs ms room =
    (differs (length xs) (matrix_length s) || differs (length ms) (mask_length s) || differs room (block_length s), 13)
    ∷ (not (all_below q xs), 14)
    ∷ (not (all_below q ms), 15) ∷ []
