-- What the tests of encoding tell.
--
--   within        a side that is not beyond the limits keeps them
--   only_matrix   of a side that keeps the limits, only the matrix, the masks and the room for the block are tested
--   matrix_answered  and only they tell what is returned
--   Fit, fit      where no test holds, the limits are kept, and the tests of the matrix and masks have passed
--   encodable     with 80 weights, all is there to encode
use mathlib.Core.Path.{◌≡◌}
use mathlib.Core.Bool.{Bool, false, ◌||◌}
use mathlib.Core.List.{List}
use Prim.Native.Nat.{ℕ}
use native.Mathlib.Omega.{arith}
use lib.Dec.{ltb}
use lib.ListN.{length}
use borrow.Author.Tests.{ltb-false, le-ltb}
use Rattle.algebra.proofs.Tests.{or_left, or_right, or_all}
use Rattle.refusal.specs.Chain.{first, answered, outside}
use Rattle.refusal.specs.Limits.{most_elements}
use Rattle.refusal.proofs.Chains.{first_miss, first_clear, inside_low, inside_high}
use Rattle.refusal.proofs.Answered.{answered_miss}
use Rattle.share_side.specs.declared.Side.{Side}
use Rattle.share_side.specs.Sides.{block_length, matrix_tests}
use Rattle.share_side.specs.Internal.{Small}
use Rattle.share_side.proofs.Sides.{Passed, passed}
use Rattle.share_side.proofs.Parts.{few_weights}
use Rattle.share_blocks.specs.Internal.{beyond, encode_tests, Encodable}

pub record Fit (q : ℕ) (s : Side) (xs ms : List ℕ) (room : ℕ) : Type 0 where
  pub small : Small s
  pub passed : Passed q s xs ms room

module _ (s : Side) where
  -- a side that keeps the limits is not beyond them
  not_beyond : Small s → beyond s ≡ false
  unfolding beyond outside block_length
  not_beyond small =
      rw (le-ltb most_elements _ small.rows_in_block, le-ltb most_elements _ small.columns_in_block, le-ltb 8 _ small.grid_rows, le-ltb 8 _ small.grid_columns, le-ltb _ 1 small.masked, le-ltb 16 _ small.mask_count, le-ltb most_elements _ small.block)

  pub within : beyond s ≡ false → Small s
  unfolding beyond block_length
  within e =
      let last : Bool = ltb most_elements (block_length s) in
      let masks : Bool = outside 1 16 s.mask_count in
      let rows : Bool = ltb 8 s.grid_rows in
      let columns : Bool = ltb 8 s.grid_columns in
      let sizes = or_all (ltb most_elements s.block_rows) (ltb most_elements s.block_columns) (rows || columns || masks || last) e in
      let rest = or_all (rows || columns) masks last sizes.2 in
      record {
        grid_rows = ltb-false 8 _ (or_left rows columns rest.0);
        grid_columns = ltb-false 8 _ (or_right rows columns rest.0);
        rows_in_block = ltb-false most_elements _ sizes.0;
        columns_in_block = ltb-false most_elements _ sizes.1;
        block = ltb-false most_elements _ rest.2;
        masked = inside_low 1 16 _ rest.1;
        mask_count = inside_high 1 16 _ rest.1;
      }

  module _ (q : ℕ) (xs ms : List ℕ) (room : ℕ) where
    pub only_matrix : Small s → first (encode_tests q s xs ms room) ≡ first (matrix_tests q s xs ms room)
    unfolding encode_tests
    only_matrix small = first_miss (beyond s) 6 _ (not_beyond small)

    pub matrix_answered : Small s → answered (encode_tests q s xs ms room) (tt {0}) ≡ answered (matrix_tests q s xs ms room) tt
    unfolding encode_tests
    matrix_answered small = answered_miss (beyond s) 6 _ tt (not_beyond small)

    pub fit : first (encode_tests q s xs ms room) ≡ 0 → Fit q s xs ms room
    unfolding encode_tests
    fit e = let c = first_clear (beyond s) 5 _ e in record { small = within c.0; passed = passed q s xs ms room c.1 }

    pub encodable : (w : List ℕ) → length w ≡ 80 → Fit q s xs ms room → Encodable s w xs ms
    encodable w all f = record { small = f.small; weights = omega (arith, few_weights s f.small); matrix = f.passed.matrix; masks = f.passed.masks }
