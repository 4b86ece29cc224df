-- The table, as the code makes it, is the decoded one.
--
--   blocks_pieces    a table that is made block by block is made piece by piece
--   weights_below, length_weights   the weights are below q, and there is one for each host and block
--   weight_is        a weight is the coefficient of the host's basis polynomial
--   piece_is         an element of a piece is the coefficient of the polynomial through the answers
use mathlib.Core.Path.{◌≡◌, sym, ap, ap₂, ◌∙◌}
use mathlib.Core.List.{List, map}
use Prim.Native.Nat.{ℕ, ◌+◌, ◌*◌, ◌/◌, ◌%◌, ◌<◌}
use native.Mathlib.Nat.{mod-lt, mul_comm}
use native.Mathlib.Omega.{arith}
use lib.Arith.{digits_div, digits_mod}
use lib.ListN.{length, get_or, drop, length-map}
use lib.Seq.{get_or-drop}
use Rattle.algebra.specs.Lists.{stack, grid, entry, AllBelow, Distinct}
use Rattle.algebra.specs.Sums.{sum}
use Rattle.algebra.specs.Modular.{⟨◌⟩◌≈◌}
use Rattle.algebra.specs.Polynomials.{basis, coefficient}
use Rattle.algebra.proofs.Lists.{get_d_map}
use Rattle.algebra.proofs.Grids.{grid_cong, length_grid, get_or_grid, below_grid}
use Rattle.algebra.proofs.Stacks.{stack_cong, stack_grid}
use Rattle.algebra.proofs.Modular.{≈_trans, ≈_of_eq, ≈_mod, ≈_mul}
use Rattle.algebra.proofs.Sums.{sum_≈}
use Rattle.algebra.proofs.Points.{points_at}
use Rattle.field.specs.Modulus.{prime}
use Rattle.plan.specs.declared.Plan.{Plan}
use Rattle.decode_basis.proofs.Weights.{basis_by_division}
use Rattle.decode_table.specs.declared.Shape.{Shape}
use Rattle.decode_table.specs.Internal.{block_count, block_length, piece_count, piece_block, piece_row, answer_term, piece_term, Sized}
use Rattle.decode_table.proofs.Pieces.{Located, located}
use Rattle.decode.specs.Decoding.{blocks}
use Rattle.decode.specs.Internal.{shape, place_of, host_weight, decoding_weights}

-- ---- blocks and pieces

-- piece w of a table of blocks
abbrev piece_of : (ℕ → ℕ → ℕ → ℕ → ℕ) → ℕ → ℕ → ℕ → ℕ → ℕ
piece_of f rows n w v = f (w / n / rows) (w % n) (w / n % rows) v

pub blocks_pieces : (f : ℕ → ℕ → ℕ → ℕ → ℕ) (m rows n columns : ℕ)
    → grid (λ w v. f (w / n / rows) (w % n) (w / n % rows) v) (m * rows * n) columns ≡ blocks f m rows n columns
unfolding blocks
blocks_pieces f m rows n columns =
    let g : ℕ → ℕ → ℕ = piece_of f rows n in
    let whole : m * rows * n ≡ m * (rows * n) = omega arith in
    ap (λ (k : ℕ). grid g k columns) whole
    ∙ sym
    (stack_cong (λ k. stack (λ i. grid (λ j v. f k j i v) n columns) rows) (λ k. grid (λ w. g (k * (rows * n) + w)) (rows * n) columns) m
    (λ k hk.
    stack_cong (λ i. grid (λ j v. f k j i v) n columns) (λ i. grid (λ j. g (k * (rows * n) + (i * n + j))) n columns) rows
    (λ i hi. grid_cong (λ j v. f k j i v) (λ j. g (k * (rows * n) + (i * n + j))) n columns (λ j v hj hv.
    let at : k * (rows * n) + (i * n + j) ≡ (k * rows + i) * n + j = omega arith in
    let row : (k * (rows * n) + (i * n + j)) / n ≡ k * rows + i = ap (λ (w : ℕ). w / n) at ∙ digits_div (k * rows + i) hj in
    let column : (k * (rows * n) + (i * n + j)) % n ≡ j = ap (λ (w : ℕ). w % n) at ∙ digits_mod (k * rows + i) hj in
    sym
    (ap₂ (λ (u x : ℕ). f (u / rows) x (u % rows) v) row column
    ∙ ap₂ (λ (a b : ℕ). f a j b v) (digits_div k hi) (digits_mod k hi))))
    ∙ stack_grid (λ w. g (k * (rows * n) + w)) rows n columns)
    ∙ stack_grid g m (rows * n) columns)

-- ---- weights

module _ (plan : Plan) (xs : List ℕ) where
  pub weights_below : 0 < prime plan.modulus → AllBelow (prime plan.modulus) (decoding_weights plan xs)
  unfolding decoding_weights host_weight
  weights_below pos = below_grid _ (prime plan.modulus) (length xs) (block_count (shape plan)) (λ c b. mod-lt _ pos)

  pub length_weights : length (decoding_weights plan xs) ≡ length xs * block_count (shape plan)
  unfolding decoding_weights
  length_weights = length_grid _ (length xs) (block_count (shape plan))

  weight_is : AllBelow (prime plan.modulus) xs → Distinct xs → (c b : ℕ) → c < length xs → b < block_count (shape plan)
      → ⟨ prime plan.modulus ⟩ entry (block_count (shape plan)) (decoding_weights plan xs) c b
      ≈ get_or (basis (prime plan.modulus) (get_or xs c 0) xs) (place_of plan (b / (shape plan).grid_columns) (b % (shape plan).grid_columns)) 0
  unfolding decoding_weights host_weight shape entry
  weight_is below distinct c b hc hb =
      let q = prime plan.modulus in
      let n = plan.parameters.n in
      ≈_trans (≈_of_eq (get_or_grid _ (length xs) (block_count (shape plan)) c b 0 hc hb))
      (≈_trans (≈_mod _)
      (basis_by_division q xs below distinct c hc (length xs + 1) (length xs) (omega arith) (omega arith) (place_of plan (b / n) (b % n))))

-- ---- the table

module _ (plan : Plan) (points indices store : List ℕ) (sized : Sized (shape plan) (length indices))
    (below : AllBelow (prime plan.modulus) (points_at points indices)) (distinct : Distinct (points_at points indices)) where
  abbrev q : ℕ
  q = prime plan.modulus

  abbrev s : Shape
  s = shape plan

  xs : List ℕ
  xs = points_at points indices

  -- the element at i, v of the answer of index h
  answer : ℕ → ℕ → ℕ → ℕ
  answer i v h = entry s.block_columns store (h * s.block_rows + i) v

  -- the place of the block of piece w
  piece_at : ℕ → ℕ
  piece_at w = place_of plan (w / s.grid_columns / s.block_rows) (w % s.grid_columns)

  -- a term of the sum, and one of the coefficient
  module _ (w v c : ℕ) (h : w < piece_count s) (hc : c < length indices) where
    weight_at : ⟨ q ⟩ get_or (drop (piece_block s w) (decoding_weights plan xs)) (c * block_count s) 0 ≈ get_or (basis q (get_or xs c 0) xs) (piece_at w) 0
    unfolding xs entry piece_at piece_block
    weight_at =
        let b = piece_block s w in
        let p : Located s w = located s (length indices) w sized h in
        let ws = decoding_weights plan xs in
        let order : b + c * block_count s ≡ c * block_count s + b = omega arith in
        let row = w / s.grid_columns / s.block_rows in
        ≈_trans (≈_of_eq (get_or-drop b ws (c * block_count s) 0 ∙ ap (λ (k : ℕ). get_or ws k 0) order))
        (≈_trans (weight_is plan xs below distinct c b (omega (arith, length-map indices (λ h. get_or points h 0))) p.block)
        (≈_of_eq (ap₂ (λ (k j : ℕ). get_or (basis q (get_or xs c 0) xs) (place_of plan k j) 0) (digits_div row p.column) (digits_mod row p.column))))

    answer_at : entry (block_length s) (drop (piece_row s w * s.block_columns) store) (get_or indices c 0) v ≡ get_or (map (answer (piece_row s w) v) indices) c 0
    unfolding entry answer block_length
    answer_at =
        let i = piece_row s w in
        let h = get_or indices c 0 in
        let start = i * s.block_columns in
        let order : start + (h * (s.block_rows * s.block_columns) + v) ≡ (h * s.block_rows + i) * s.block_columns + v = omega arith in
        get_or-drop start store (h * (s.block_rows * s.block_columns) + v) 0
        ∙ ap (λ (k : ℕ). get_or store k 0) order
        ∙ sym (get_d_map (answer i v) indices c hc)

  pub piece_is : (w v : ℕ) → w < piece_count (shape plan)
      → sum (length indices) (piece_term (shape plan) indices (decoding_weights plan (points_at points indices)) store w v) % prime plan.modulus
      ≡ coefficient (prime plan.modulus) (points_at points indices)
      (map (λ h. entry (shape plan).block_columns store (h * (shape plan).block_rows + piece_row (shape plan) w) v) indices)
      (place_of plan (w / (shape plan).grid_columns / (shape plan).block_rows) (w % (shape plan).grid_columns))
  unfolding piece_term answer_term coefficient xs answer piece_at
  piece_is w v h =
      let ys : List ℕ = map (answer (piece_row s w) v) indices in
      let long = length-map indices (λ h. get_or points h 0) in
      (≈_trans
      (sum_≈ (length indices) _ (λ c. get_or ys c 0 * get_or (basis q (get_or xs c 0) xs) (piece_at w) 0) (λ c hc.
      ≈_trans (≈_mul (weight_at w v c h hc) (≈_of_eq (answer_at w v c h hc))) (≈_of_eq (mul_comm _ (get_or ys c 0)))))
      (≈_of_eq (ap (λ (n : ℕ). sum n (λ c. get_or ys c 0 * get_or (basis q (get_or xs c 0) xs) (piece_at w) 0)) (sym long)))).same
