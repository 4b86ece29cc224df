-- What a call that fits tells.
--
--   sizes_told      the sizes are those that the code asks for
--   Fit, fit_told   so are the sizes and the lengths of a call that fits
--   table_made, table_stays   what the table then holds: the pieces, where the call fits, and only there
use mathlib.Core.Path.{◌≡◌, sym, ap}
use mathlib.Core.Bool.{Bool, true, false, cond, ◌||◌}
use mathlib.Core.List.{List}
use Prim.Native.Nat.{ℕ, ◌*◌}
use lib.ListN.{length}
use Rattle.algebra.proofs.Tests.{or_left, or_right, or_all, equal}
use Rattle.refusal.specs.Chain.{outside, differs}
use Rattle.refusal.specs.Limits.{most_elements}
use Rattle.refusal.proofs.Chains.{inside_low, inside_high}
use Rattle.refusal.proofs.Limits.{within_both}
use Rattle.decode_table.specs.declared.Shape.{Shape}
use Rattle.decode_table.specs.Internal.{block_count, piece_count, pieces_of, sizes_test, misfit, table_after, Sized}

module _ (s : Shape) (count : ℕ) where
  pub sizes_told : sizes_test s count ≡ false → Sized s count
  unfolding sizes_test
  sizes_told e =
      let out : ℕ → Bool = outside 1 most_elements in
      let told = or_all (out s.grid_rows || out s.grid_columns) (out s.block_rows || out s.block_columns) (out count) e in
      let grid = within_both most_elements s.grid_rows s.grid_columns told.0 in
      let block = within_both most_elements s.block_rows s.block_columns told.1 in
      record {
        split = grid.1.low;
        tall = block.0.low;
        some = inside_low 1 most_elements count told.2;
        grid_rows = grid.0.high;
        grid_columns = grid.1.high;
        rows_in_block = block.0.high;
        columns_in_block = block.1.high;
        few = inside_high 1 most_elements count told.2;
      }

  pub record Fit (weights sums room : ℕ) : Type 0 where
    pub sized : Sized s count
    pub each : weights ≡ count * block_count s
    pub wide : sums ≡ s.block_columns
    pub long : room ≡ piece_count s * s.block_columns

  pub fit_told : (weights sums room : ℕ) → misfit s count weights sums room ≡ false → Fit weights sums room
  unfolding misfit
  fit_told weights sums room e =
      let a = differs weights (count * block_count s) in
      let b = differs sums s.block_columns in
      let c = differs room (piece_count s * s.block_columns) in
      let lengths = or_all a b c (or_right (sizes_test s count) (a || b || c) e) in
      record {
        sized = sizes_told (or_left (sizes_test s count) (a || b || c) e);
        each = equal weights (count * block_count s) lengths.0;
        wide = equal sums s.block_columns lengths.1;
        long = equal room (piece_count s * s.block_columns) lengths.2;
      }

module _ (q : ℕ) (s : Shape) (indices weights store : List ℕ) (sums : ℕ) (table : List ℕ) where
  pub table_made : misfit s (length indices) (length weights) sums (length table) ≡ false
      → pieces_of q s indices weights store ≡ table_after q s indices weights store sums table
  unfolding table_after
  table_made e = sym (ap (λ (b : Bool). cond b table (pieces_of q s indices weights store)) e)

  pub table_stays : misfit s (length indices) (length weights) sums (length table) ≡ true → table ≡ table_after q s indices weights store sums table
  unfolding table_after
  table_stays e = sym (ap (λ (b : Bool). cond b table (pieces_of q s indices weights store)) e)
