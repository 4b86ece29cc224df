-- The sums of weighted rows are those of the sheet's formula, and fit 64 bits.
--
--   Below q w xs ms  weights, a matrix and masks are below q
--   weights_below    the weights are below q
--   share_exact      the encoded block is the share
use mathlib.Core.Path.{◌≡◌, ap, ap₂, ◌∙◌}
use mathlib.Core.List.{List, ◌++◌, append_assoc}
use Prim.Native.Nat.{ℕ, ◌+◌, ◌-◌, ◌*◌, ◌/◌, ◌%◌, ◌^◌, ◌<◌, ◌≤◌}
use native.Mathlib.Nat.{le_trans, mod-lt, mul_comm, mul-le-mul, mul-le-mul_right}
use native.Mathlib.Omega.{arith}
use lib.ListN.{length, get_or, take, drop, length-take}
use lib.Seq.{get_or-drop, take_at, drop_at}
use Rattle.algebra.specs.Lists.{tab, grid, entry, AllBelow}
use Rattle.algebra.specs.Sums.{sum}
use Rattle.algebra.specs.Modular.{⟨◌⟩◌≈◌}
use Rattle.algebra.proofs.Lists.{length_tab, get_or_tab, below_append, below_tab, below_drop, below_part}
use Rattle.algebra.proofs.Grids.{tab_cong, grid_cong, length_grid, below_grid, row_grid}
use Rattle.algebra.proofs.Modular.{≈_trans, ≈_of_eq, ≈_mod, ≈_add, ≈_mul}
use Rattle.algebra.proofs.Sums.{sum_≈, sum_bound}
use Rattle.field.specs.declared.Modulus.{Modulus}
use Rattle.field.specs.Modulus.{prime}
use Rattle.layout.specs.declared.Parameters.{Parameters}
use Rattle.layout.specs.declared.Strides.{Strides}
use Rattle.layout.specs.Exponents.{Exponents, term}
use Rattle.layout.specs.Internal.{Follows}
use Rattle.layout.proofs.Nests.{exponent_is}
use Rattle.sums_modular.specs.Internal.{combination}
use Rattle.sums_modular.proofs.Exact.{combination_≈, combination_bound}
use Rattle.share_side.specs.declared.Side.{Side}
use Rattle.share_side.specs.Internal.{Small, weight, side_weights}
use Rattle.share_blocks.specs.Internal.{block_terms, mask_terms, row_sums, encoded_block}
use Rattle.share.specs.Sharing.{block_entry, mask_entry, share_entry, share_of}

-- a combination of n weights, of many, with rows from a start on
part_bound : (m : Modulus) (w source : List ℕ) → AllBelow (prime m) w → AllBelow (prime m) source → (n k start stride j : ℕ)
    → combination (prime m) (take n (drop k w)) (drop start source) stride j ≤ (n + 1) / 2 * (2 ^ 53 - 2)
part_bound m w source hw hs n k start stride j =
    le_trans (combination_bound m (take n (drop k w)) (drop start source) stride j (below_part (prime m) w hw n k) (below_drop (prime m) source hs start))
    (mul-le-mul_right (2 ^ 53 - 2) (omega (arith, length-take n (drop k w))))

module _ (m : Modulus) (s : Side) (w : List ℕ) (hw : AllBelow (prime m) w) where
  blocks_bound : (xs : List ℕ) → AllBelow (prime m) xs → (i j : ℕ)
      → block_terms (prime m) s w xs i j ≤ s.grid_rows * ((s.grid_columns + 1) / 2 * (2 ^ 53 - 2))
  unfolding block_terms
  blocks_bound xs h i j =
      sum_bound s.grid_rows ((s.grid_columns + 1) / 2 * (2 ^ 53 - 2)) _ (λ k l.
      part_bound m w xs hw h s.grid_columns (k * s.grid_columns) ((k * s.block_rows + i) * (s.grid_columns * s.block_columns)) s.block_columns j)

  masks_bound : (ms : List ℕ) → AllBelow (prime m) ms → (i j : ℕ) → mask_terms (prime m) s w ms i j ≤ (s.mask_count + 1) / 2 * (2 ^ 53 - 2)
  unfolding mask_terms
  masks_bound ms h i j = part_bound m w ms hw h s.mask_count (s.grid_rows * s.grid_columns) (i * s.block_columns) (s.block_rows * s.block_columns) j

pub record Below (q : ℕ) (w xs ms : List ℕ) : Type 0 where
  pub weights : AllBelow q w
  pub matrix : AllBelow q xs
  pub masks : AllBelow q ms

-- at most 80 products of elements are summed
row_fits : (m : Modulus) (s : Side) (w xs ms : List ℕ) → Small s → Below (prime m) w xs ms → (i j : ℕ) → row_sums (prime m) s w xs ms i j < 2 ^ 64
unfolding row_sums
row_fits m s w xs ms small b i j =
    let pairs : (s.grid_columns + 1) / 2 ≤ 4 = omega (arith, small.grid_columns) in
    let few : s.grid_rows * ((s.grid_columns + 1) / 2 * (2 ^ 53 - 2)) ≤ 8 * (4 * (2 ^ 53 - 2))
    = mul-le-mul small.grid_rows (mul-le-mul_right (2 ^ 53 - 2) pairs) in
    let blocks = blocks_bound m s w b.weights xs b.matrix i j in
    let masks = masks_bound m s w b.weights ms b.masks i j in
    omega (arith, few, small.mask_count)

-- a combination whose weights are those of g modulo the prime, and whose elements in column j are those of h
weighted : (m : Modulus) (n : ℕ) (g h : ℕ → ℕ) (weights source : List ℕ) (stride j : ℕ) → AllBelow (prime m) weights → AllBelow (prime m) source
    → weights ≡ tab (λ l. g l % prime m) n → ((l : ℕ) → entry stride source l j ≡ h l)
    → ⟨ prime m ⟩ combination (prime m) weights source stride j ≈ sum n (λ l. h l * g l)
weighted m n g h weights source stride j hw hs is at =
    let q : ℕ = prime m in
    let size : length weights ≡ n = ap length is ∙ length_tab (λ l. g l % q) n in
    ≈_trans (combination_≈ m weights source stride j hw hs)
    (≈_trans (≈_of_eq (ap (λ (k : ℕ). sum k (λ l. get_or weights l 0 * entry stride source l j)) size))
    (sum_≈ n (λ l. get_or weights l 0 * entry stride source l j) (λ l. h l * g l) (λ l b.
    let weight : get_or weights l 0 ≡ g l % q = ap (λ (ws : List ℕ). get_or ws l 0) is ∙ get_or_tab (λ l. g l % q) n l 0 b in
    ≈_trans (≈_mul (≈_trans (≈_of_eq weight) (≈_mod (g l))) (≈_of_eq (at l))) (≈_of_eq (mul_comm (g l) (h l))))))

-- the weights that the code makes are below q
pub weights_below : (q : ℕ) (strides : Strides) (s : Side) (x : ℕ) (rest : List ℕ) → 0 < q → AllBelow q rest → AllBelow q (side_weights q strides s x ++ rest)
unfolding side_weights
weights_below q strides s x rest pos h =
    let blocks = grid (weight q strides s.blocks x) s.grid_rows s.grid_columns in
    let masks = tab (weight q strides s.masks x 0) s.mask_count in
    below_append q (blocks ++ masks) rest
    (below_append q blocks masks (below_grid _ q s.grid_rows s.grid_columns (λ k l. mod-lt _ pos)) (below_tab q _ s.mask_count (λ y. mod-lt _ pos)))
    h

-- the strides give the exponents e
module _ (m : Modulus) {strides : Strides} {g : Parameters} {e : Exponents} (f : Follows strides g e) (s : Side) (small : Small s) (x : ℕ) where
  abbrev q : ℕ
  q = prime m

  -- the weights of the blocks and of the masks, before and after they are reduced
  block : ℕ → ℕ → ℕ
  block k l = x ^ term e s.blocks k l

  mask : ℕ → ℕ
  mask y = x ^ term e s.masks 0 y

  blocks : List ℕ
  blocks = grid (λ k l. block k l % q) s.grid_rows s.grid_columns

  masks : List ℕ
  masks = tab (λ y. mask y % q) s.mask_count

  length_blocks : length blocks ≡ s.grid_rows * s.grid_columns
  unfolding blocks
  length_blocks = length_grid (λ k l. block k l % q) s.grid_rows s.grid_columns

  length_masks : length masks ≡ s.mask_count
  unfolding masks
  length_masks = length_tab (λ y. mask y % q) s.mask_count

  module _ (w rest xs ms : List ℕ) (is : w ≡ side_weights q strides s x ++ rest) (below : Below q w xs ms) where
    parts : w ≡ blocks ++ (masks ++ rest)
    unfolding side_weights blocks masks block mask
    parts =
        let power : ℕ → ℕ = λ n. x ^ n % q in
        let grid_is = grid_cong _ (λ k l. block k l % q) s.grid_rows s.grid_columns (λ k l hk hl. ap power (exponent_is f s.blocks k l (omega (arith, small.grid_columns)))) in
        let mask_is = tab_cong _ (λ y. mask y % q) s.mask_count (λ y hy. ap power (exponent_is f s.masks 0 y (omega (arith, small.mask_count)))) in
        is ∙ ap₂ (λ (a b : List ℕ). (a ++ b) ++ rest) grid_is mask_is ∙ append_assoc blocks masks rest

    block_weights : (k : ℕ) → k < s.grid_rows → take s.grid_columns (drop (k * s.grid_columns) w) ≡ tab (λ l. block k l % q) s.grid_columns
    unfolding blocks
    block_weights k h =
        ap (λ (l : List ℕ). take s.grid_columns (drop (k * s.grid_columns) l)) parts
        ∙ row_grid (λ k l. block k l % q) s.grid_rows s.grid_columns k (masks ++ rest) h

    mask_weights : take s.mask_count (drop (s.grid_rows * s.grid_columns) w) ≡ masks
    mask_weights =
        ap (λ (l : List ℕ). take s.mask_count (drop (s.grid_rows * s.grid_columns) l)) parts
        ∙ ap (take s.mask_count) (drop_at blocks (masks ++ rest) (s.grid_rows * s.grid_columns) length_blocks)
        ∙ take_at masks rest s.mask_count length_masks

    blocks_≈ : (i j : ℕ) → ⟨ q ⟩ block_terms q s w xs i j ≈ sum s.grid_rows (λ k. sum s.grid_columns (λ l. block_entry s xs k l i j * block k l))
    unfolding block_terms block_entry entry
    blocks_≈ i j =
        sum_≈ s.grid_rows _ _ (λ k h.
        let start : ℕ = (k * s.block_rows + i) * (s.grid_columns * s.block_columns) in
        weighted m s.grid_columns (block k) (λ l. block_entry s xs k l i j) (take s.grid_columns (drop (k * s.grid_columns) w)) (drop start xs) s.block_columns j
        (below_part q w below.weights s.grid_columns (k * s.grid_columns)) (below_drop q xs below.matrix start)
        (block_weights k h) (λ l. get_or-drop start xs (l * s.block_columns + j) 0))

    masks_≈ : (i j : ℕ) → ⟨ q ⟩ mask_terms q s w ms i j ≈ sum s.mask_count (λ y. mask_entry s ms y i j * mask y)
    unfolding mask_terms mask_entry entry masks
    masks_≈ i j =
        let size : ℕ = s.block_rows * s.block_columns in
        let row : ℕ = i * s.block_columns in
        weighted m s.mask_count mask (λ y. mask_entry s ms y i j) (take s.mask_count (drop (s.grid_rows * s.grid_columns) w)) (drop row ms) size j
        (below_part q w below.weights s.mask_count (s.grid_rows * s.grid_columns)) (below_drop q ms below.masks row)
        mask_weights (λ y.
        let offset : row + (y * size + j) ≡ (y * s.block_rows + i) * s.block_columns + j = omega arith in
        get_or-drop row ms (y * size + j) 0 ∙ ap (λ (k : ℕ). get_or ms k 0) offset)

    sums_≈ : (i j : ℕ) → ⟨ q ⟩ row_sums q s w xs ms i j ≈ share_entry e s x xs ms i j
    unfolding row_sums share_entry block mask
    sums_≈ i j = ≈_add (blocks_≈ i j) (masks_≈ i j)

-- the sums are not cut at 64 bits
pub share_exact : (m : Modulus) {strides : Strides} {g : Parameters} {e : Exponents} → Follows strides g e → (s : Side) → Small s → (x : ℕ) (w rest xs ms : List ℕ)
    → w ≡ side_weights (prime m) strides s x ++ rest → Below (prime m) w xs ms → encoded_block (prime m) s w xs ms ≡ share_of (prime m) e s x xs ms
unfolding encoded_block share_of
share_exact m {e = e} f s small x w rest xs ms is below =
    grid_cong _ (λ i j. share_entry e s x xs ms i j % prime m) s.block_rows s.block_columns (λ i j a b.
    let fits = row_fits m s w xs ms small below i j in
    let whole : row_sums (prime m) s w xs ms i j % 2 ^ 64 ≡ row_sums (prime m) s w xs ms i j = omega arith in
    ap (λ (n : ℕ). n % prime m) whole ∙ (sums_≈ m f s small x w rest xs ms is below i j).same)
