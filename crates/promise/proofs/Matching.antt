-- The masks of two jobs, matched one to one: a partner has the same number added at each place, modulo q.
--
--   moved q n by ms      the list ms of length n, with by t added at place t
--   length_moved, below_moved   it is of exact length, and its elements are below q
--   moved_back           what was added is taken off again
--   shift                what is added to the masks, so that their sums make up for other matrices
--   shift_below          it is below q
--   same_sums            then each host of the group gets the same sums
--   matched              the masks of a side match where their weights are solvable
use mathlib.Core.Path.{◌≡◌, sym, ap, ap₂, ◌∙◌}
use mathlib.Core.List.{List}
use Prim.Native.Nat.{ℕ, ◌+◌, ◌-◌, ◌*◌, ◌/◌, ◌%◌, ◌^◌, ◌<◌}
use native.Mathlib.Nat.{mod-lt, mod-eq_of_lt}
use native.Mathlib.Omega.{arith}
use lib.Arith.{digits_lt, digits_div, digits_mod}
use lib.ListN.{length, get_or}
use lib.Seq.{ext_get_or}
use Rattle.algebra.specs.Lists.{tab, entry, AllBelow}
use Rattle.algebra.specs.Sums.{sum}
use Rattle.algebra.specs.Modular.{⟨◌⟩◌≈◌}
use Rattle.algebra.proofs.Lists.{length_tab, get_or_tab, below_tab}
use Rattle.algebra.proofs.Modular.{≈_refl, ≈_sym, ≈_trans, ≈_of_eq, ≈_by, ≈_mod, ≈_add, ≈_mul, ≈_multiple}
use Rattle.algebra.proofs.Sums.{sum_≈, sum_add}
use Rattle.algebra.proofs.Grids.{grid_cong}
use Rattle.layout.specs.Exponents.{Exponents, term}
use Rattle.share_side.specs.declared.Side.{Side}
use Rattle.share_side.specs.Sides.{block_length, mask_length}
use Rattle.share.specs.Sharing.{block_entry, mask_entry, share_entry, share_of}
use Rattle.promise.specs.Layouts.{Matched}
use Rattle.promise.proofs.Solvable.{Solvable}

pub moved : ℕ → ℕ → (ℕ → ℕ) → List ℕ → List ℕ
moved q n by ms = tab (λ t. (get_or ms t 0 + by t) % q) n

module _ (q n : ℕ) (pos : 0 < q) (by : ℕ → ℕ) (ms : List ℕ) where
  pub length_moved : length (moved q n by ms) ≡ n
  unfolding moved
  length_moved = length_tab (λ t. (get_or ms t 0 + by t) % q) n

  pub below_moved : AllBelow q (moved q n by ms)
  unfolding moved
  below_moved = below_tab q (λ t. (get_or ms t 0 + by t) % q) n (λ t. mod-lt _ pos)

  get_d_moved : (t : ℕ) → t < n → get_or (moved q n by ms) t 0 ≡ (get_or ms t 0 + by t) % q
  unfolding moved
  get_d_moved t h = get_or_tab (λ t. (get_or ms t 0 + by t) % q) n t 0 h

-- two numbers that make up q, added one after the other
pub moved_back : (q n : ℕ) (by off : ℕ → ℕ) (ms : List ℕ) → 0 < q → ((t : ℕ) → by t + off t ≡ q) → length ms ≡ n → AllBelow q ms
    → moved q n off (moved q n by ms) ≡ ms
moved_back q n by off ms pos whole size below =
    ext_get_or 0 (moved q n off (moved q n by ms)) ms (length_moved q n pos off (moved q n by ms) ∙ sym size)
    (λ t h.
    let inside : t < n = omega (arith, length_moved q n pos off (moved q n by ms)) in
    let there : t < length ms = omega arith in
    let both : ⟨ q ⟩ get_or (moved q n by ms) t 0 + off t ≈ get_or ms t 0
    = ≈_trans (≈_add (≈_trans (≈_of_eq (get_d_moved q n pos by ms t inside)) (≈_mod (get_or ms t 0 + by t))) (≈_refl (off t)))
    (≈_by (≈_multiple 1) (omega (arith, whole t))) in
    get_d_moved q n pos off (moved q n by ms) t inside ∙ both.same ∙ mod-eq_of_lt (below t there))

-- Of n hosts, host k gets w k y times mask y; for the matrices it gets u k i j at element i, j in one job, and v k i j in the
-- other. The masks lie one after another, row by row.
module _ {q n count : ℕ} {w : ℕ → ℕ → ℕ} (solvable : Solvable q n count w) (pos : 0 < q) (rows columns : ℕ) (u v : ℕ → ℕ → ℕ → ℕ) where
  -- - v is (q - 1) * v
  missing : ℕ → ℕ → ℕ → ℕ
  missing i j k = u k i j + (q - 1) * v k i j

  pub shift : ℕ → ℕ
  shift t = solvable.masks (missing (t / columns % rows) (t % columns)) (t / columns / rows)

  pub shift_below : (t : ℕ) → shift t < q
  unfolding shift
  shift_below t = solvable.below (missing (t / columns % rows) (t % columns)) (t / columns / rows)

  shift_at : (y i j : ℕ) → i < rows → j < columns → shift ((y * rows + i) * columns + j) ≡ solvable.masks (missing i j) y
  unfolding shift
  shift_at y i j hi hj =
      let row = digits_div (y * rows + i) hj in
      let t : ℕ = (y * rows + i) * columns + j in
      ap (λ (k : ℕ). solvable.masks (missing (k % rows) (t % columns)) (k / rows)) row
      ∙ ap (λ (k : ℕ). solvable.masks (missing ((y * rows + i) % rows) k) ((y * rows + i) / rows)) (digits_mod (y * rows + i) hj)
      ∙ ap₂ (λ (k l : ℕ). solvable.masks (missing k j) l) (digits_mod y hi) (digits_div y hi)

  module _ (ms : List ℕ) where
    partner : List ℕ
    partner = moved q (count * (rows * columns)) shift ms

    entry_moved : (y i j : ℕ) → y < count → i < rows → j < columns
        → ⟨ q ⟩ entry columns partner (y * rows + i) j ≈ entry columns ms (y * rows + i) j + solvable.masks (missing i j) y
    unfolding entry partner
    entry_moved y i j hy hi hj =
        let t : ℕ = (y * rows + i) * columns + j in
        let inside : t < count * rows * columns = digits_lt (digits_lt hy hi) hj in
        ≈_trans (≈_of_eq (get_d_moved q (count * (rows * columns)) pos shift ms t (omega arith)))
        (≈_trans (≈_mod (get_or ms t 0 + shift t)) (≈_of_eq (ap (λ (k : ℕ). get_or ms t 0 + k) (shift_at y i j hi hj))))

    -- the sum of the partner's masks makes up for what is missing
    moved_sum : (k i j : ℕ) → k < n → i < rows → j < columns
        → ⟨ q ⟩ sum count (λ y. entry columns partner (y * rows + i) j * w k y)
        ≈ sum count (λ y. entry columns ms (y * rows + i) j * w k y) + missing i j k
    moved_sum k i j hk hi hj =
        let old : ℕ → ℕ = λ y. entry columns ms (y * rows + i) j * w k y in
        let new : ℕ → ℕ = λ y. solvable.masks (missing i j) y * w k y in
        ≈_trans
        (sum_≈ count (λ y. entry columns partner (y * rows + i) j * w k y) (λ y. old y + new y)
        (λ y hy. ≈_trans (≈_mul (entry_moved y i j hy hi hj) (≈_refl (w k y))) (≈_of_eq (omega arith))))
        (≈_trans (≈_of_eq (sum_add count old new)) (≈_add (≈_refl (sum count old)) (solvable.gives (missing i j) k hk)))

    pub same_sums : (k i j : ℕ) → k < n → i < rows → j < columns
        → ⟨ q ⟩ u k i j + sum count (λ y. entry columns ms (y * rows + i) j * w k y)
        ≈ v k i j + sum count (λ y. entry columns (moved q (count * (rows * columns)) shift ms) (y * rows + i) j * w k y)
    unfolding partner missing
    same_sums k i j hk hi hj =
        let part : ℕ = q - 1 in
        let q_is : part + 1 ≡ q = omega arith in
        let whole = ≈_add (moved_sum k i j hk hi hj) (≈_multiple {q = q} (v k i j)) in
        ≈_sym (≈_by whole (omega (arith, ap (λ (z : ℕ). z * v k i j) q_is)))

-- ---- one side, two matrices

module _ {q : ℕ} (e : Exponents) (s : Side) (group : List ℕ)
    (solvable : Solvable q (length group) s.mask_count (λ k y. get_or group k 0 ^ term e s.masks 0 y)) (pos : 0 < q) (xs ys : List ℕ) where
  -- what the blocks of a matrix give to host k of the group at element i, j
  blocks : List ℕ → ℕ → ℕ → ℕ → ℕ
  blocks zs k i j = sum s.grid_rows (λ a. sum s.grid_columns (λ b. block_entry s zs a b i j * get_or group k 0 ^ term e s.blocks a b))

  -- what a partner has more at a place
  more : ℕ → ℕ
  more = shift solvable pos s.block_rows s.block_columns (blocks xs) (blocks ys)

  -- what is added to take it off again
  less : ℕ → ℕ
  less t = q - more t

  whole : (t : ℕ) → more t + less t ≡ q
  unfolding more less
  whole t = omega (arith, shift_below solvable pos s.block_rows s.block_columns (blocks xs) (blocks ys) t)

  same_share : (ms : List ℕ) (k : ℕ) → k < length group
      → share_of q e s (get_or group k 0) xs ms ≡ share_of q e s (get_or group k 0) ys (moved q (mask_length s) more ms)
  unfolding share_of share_entry mask_entry mask_length block_length blocks more
  same_share ms k h =
      grid_cong (λ i j. share_entry e s (get_or group k 0) xs ms i j % q)
      (λ i j. share_entry e s (get_or group k 0) ys (moved q (mask_length s) more ms) i j % q) s.block_rows s.block_columns
      (λ i j hi hj. (same_sums solvable pos s.block_rows s.block_columns (blocks xs) (blocks ys) ms k i j h hi hj).same)

  pub matched : Matched q e s group xs ys
  matched = record {
    partner = moved q (mask_length s) more;
    back = moved q (mask_length s) less;
    partner_masks = λ ms. (length_moved q (mask_length s) pos more ms, below_moved q (mask_length s) pos more ms);
    back_masks = λ ms. (length_moved q (mask_length s) pos less ms, below_moved q (mask_length s) pos less ms);
    back_partner = λ ms is. moved_back q (mask_length s) more less ms pos whole is.0 is.1;
    partner_back = λ ms is. moved_back q (mask_length s) less more ms pos (λ t. omega (arith, whole t)) is.0 is.1;
    same = same_share;
  }
