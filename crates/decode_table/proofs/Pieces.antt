-- A piece of the table: where its parts lie, and its sums of 64 bits.
--
--   Located s w      piece w: its block and its row are within the table's
--   located          so is each piece
--   few_pieces       how many rows and pieces a table has at most
--   block_there, piece_there   the weights of a piece are there
--   piece_exact      a piece's sum of 64 bits is the sum modulo the prime, where the weights and the answers are below it
use mathlib.Core.Path.{◌≡◌, ap, ◌∙◌}
use mathlib.Core.List.{List}
use Prim.Native.Nat.{ℕ, ◌+◌, ◌*◌, ◌/◌, ◌%◌, ◌^◌, ◌<◌, ◌≤◌}
use native.Mathlib.Nat.{mul-le-mul, mul-le-mul_right, mod-lt, div-lt_iff_lt-mul}
use native.Mathlib.Omega.{arith}
use lib.ListN.{length, get_or, drop, length-drop}
use lib.Seq.{get_or-drop}
use Rattle.algebra.specs.Lists.{entry, AllBelow}
use Rattle.algebra.specs.Sums.{sum}
use Rattle.algebra.proofs.Orders.{row_end}
use Rattle.algebra.proofs.Lists.{below_anywhere, below_drop}
use Rattle.field.specs.declared.Modulus.{Modulus}
use Rattle.field.specs.Modulus.{prime}
use Rattle.field.proofs.Moduli.{prime_prime}
use Rattle.sums_modular.specs.Internal.{total}
use Rattle.sums_modular.proofs.Exact.{foldable, total_≈, total_fits, product_small}
use Rattle.decode_table.specs.declared.Shape.{Shape}
use Rattle.decode_table.specs.Internal.{block_count, block_length, piece_count, piece_block, piece_row, answer_term, piece_term, piece_sum, Sized, Weighted, There}

-- ---- where it lies

pub record Located (s : Shape) (w : ℕ) : Type 0 where
  pub tall : w / s.grid_columns < s.grid_rows * s.block_rows
  pub high : s.grid_rows * s.block_rows ≤ 16777216
  pub left : w / s.grid_columns / s.block_rows * s.grid_columns + s.grid_columns ≤ block_count s
  pub column : w % s.grid_columns < s.grid_columns
  pub block : piece_block s w < block_count s
  pub few : block_count s ≤ 16777216
  pub row : piece_row s w * s.block_columns + s.block_columns ≤ block_length s
  pub size : block_length s ≤ 16777216

pub few_pieces : (s : Shape) (count : ℕ) → Sized s count → (s.grid_rows * s.block_rows ≤ 16777216) × (piece_count s ≤ 68719476736)
unfolding piece_count
few_pieces s count sized =
    let high : s.grid_rows * s.block_rows ≤ 4096 * 4096 = mul-le-mul sized.grid_rows sized.rows_in_block in
    (high, mul-le-mul high sized.grid_columns)

pub located : (s : Shape) (count w : ℕ) → Sized s count → w < piece_count s → Located s w
unfolding piece_count block_count block_length piece_block piece_row
located s count w sized h =
    let tall : w / s.grid_columns < s.grid_rows * s.block_rows = (div-lt_iff_lt-mul sized.split).1 h in
    let down : w / s.grid_columns / s.block_rows < s.grid_rows = (div-lt_iff_lt-mul sized.tall).1 tall in
    let left = row_end s.grid_columns down in
    let column : w % s.grid_columns < s.grid_columns = mod-lt w sized.split in
    record {
      tall = tall;
      high = (few_pieces s count sized).0;
      left = left;
      column = column;
      block = omega (arith, left, column);
      few = mul-le-mul sized.grid_rows sized.grid_columns;
      row = row_end s.block_columns (mod-lt (w / s.grid_columns) sized.tall);
      size = mul-le-mul sized.rows_in_block sized.columns_in_block;
    }

-- ---- what it is made of

module _ {s : Shape} {indices ws : List ℕ} (given : Weighted s indices ws) (w : ℕ) (h : w < piece_count s) where
  at : Located s w
  at = located s (length indices) w given.sized h

  pub block_there : piece_block s w ≤ length ws
  block_there = omega (arith, at.block, given.each, mul-le-mul_right (block_count s) given.sized.some)

  pub piece_there : There (drop (piece_block s w) ws) (block_count s) indices (block_length s)
  piece_there = record {
    weight = λ c l. omega (arith, at.block, given.each, row_end (block_count s) l, length-drop (piece_block s w) ws);
    short = at.size;
  }

-- ---- its sum, where nothing is lost

module _ (m : Modulus) (s : Shape) (indices ws store : List ℕ) (sized : Sized s (length indices)) (weights : AllBelow (prime m) ws)
    (answers : (c i : ℕ) → c < length indices → i < block_length s → entry (block_length s) store (get_or indices c 0) i < prime m)
    (w v : ℕ) (hw : w < piece_count s) (hv : v < s.block_columns) where
  -- an element of an answer is below the prime
  answer_below : (c : ℕ) → c < length indices → entry (block_length s) (drop (piece_row s w * s.block_columns) store) (get_or indices c 0) v < prime m
  unfolding entry
  answer_below c l =
      let size = get_or indices c 0 * block_length s in
      let from = piece_row s w * s.block_columns in
      let same : from + (size + v) ≡ size + (from + v) = omega arith in
      let is : get_or (drop from store) (size + v) 0 ≡ get_or store (size + (from + v)) 0
      = get_or-drop from store (size + v) 0 ∙ ap (λ (k : ℕ). get_or store k 0) same in
      omega (arith, is, answers c (from + v) l (omega (arith, (located s (length indices) w sized hw).row)))

  term_small : (c : ℕ) → c < length indices → piece_term s indices ws store w v c ≤ prime m * prime m
  unfolding piece_term answer_term
  term_small c l =
      let pos : 0 < prime m = omega (arith, (prime_prime m).above_one) in
      product_small (prime m) _ _
      (below_anywhere (prime m) (drop (piece_block s w) ws) pos (below_drop (prime m) ws weights (piece_block s w)) (c * block_count s))
      (answer_below c l)

  pub piece_exact : piece_sum (prime m) s indices ws store w v % 2 ^ 64 % prime m ≡ sum (length indices) (piece_term s indices ws store w v) % prime m
  unfolding piece_sum
  piece_exact =
      let n = length indices in
      let f = piece_term s indices ws store w v in
      let fits = total_fits (foldable m) n f term_small sized.few in
      let whole : total (prime m) n f % 2 ^ 64 ≡ total (prime m) n f = omega arith in
      ap (λ (x : ℕ). x % prime m) whole ∙ (total_≈ (foldable m) n f term_small).same
