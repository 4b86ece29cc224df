-- The product, some rows at a time.
--
--   one_row       the sums of 64 bits by one row are a product of one row
--   front_there   an array of which a front was lent
--   two_rows      the halves of the sums by two packed rows are a product of two rows
--   part_rows     a product by some rows of A's share is those rows of the product
--   element       the elements of the product
use mathlib.Core.Path.{◌≡◌, refl, ap, ap₂, ◌∙◌}
use mathlib.Core.Bool.{Bool, true, false, cond}
use mathlib.Core.List.{List, ◌++◌, append-nil}
use Prim.Native.Nat.{ℕ, ◌+◌, ◌-◌, ◌*◌, ◌%◌, ◌^◌, ◌≤◌}
use native.Mathlib.Nat.{lt_of_lt_of_le}
use native.Mathlib.Omega.{arith}
use borrow.Author.Tests.{lt-leb}
use lib.ListN.{length, get_or, take, drop, length-append, length-take, length-drop, drop_of_length-le}
use lib.Seq.{get_or-take, get_or-drop, length-take-le, length_front, take_at}
use Rattle.algebra.specs.Lists.{tab, grid, entry, AllBelow}
use Rattle.algebra.proofs.Orders.{row_end}
use Rattle.algebra.proofs.Lists.{length_tab}
use Rattle.algebra.proofs.Grids.{tab_cong, grid_cong}
use Rattle.algebra.proofs.Sums.{sum_cong}
use Rattle.refusal.specs.Limits.{most_elements}
use Rattle.field.specs.declared.Modulus.{Modulus}
use Rattle.field.specs.Modulus.{prime}
use Rattle.sums.specs.Internal.{zeros, reduced}
use Rattle.sums.proofs.Reduced.{reduced_tab}
use Rattle.sums_rows.specs.Internal.{added as rows_added}
use Rattle.sums_modular.specs.Internal.{large, combination, added}
use Rattle.sums_modular.proofs.Picked.{added_small}
use Rattle.sums_modular.proofs.Exact.{combination_≈, combination_fits, added_zeros}
use Rattle.sums_packed.specs.Internal.{packed, halves}
use Rattle.sums_packed.proofs.Exact.{dot, halves_exact}
use Rattle.product.specs.Product.{product_entry, product_of}

pub one_row : (m : Modulus) (row b sums out : List ℕ) → AllBelow (prime m) row → AllBelow (prime m) b → length row ≤ most_elements → length sums ≡ length out
    → reduced (prime m) (added (prime m) (zeros sums) row b (length out)) out ≡ product_of (prime m) 1 (length row) (length out) row b
unfolding product_of product_entry grid entry
one_row m row b sums out Below-row below_b few same =
    let n = length out in
    let sum_of = combination (prime m) row b n in
    ap (λ (xs : List ℕ). reduced (prime m) xs out)
    (added_zeros (prime m) row b n sums (λ j l. combination_fits m row b n j Below-row below_b few) ∙ ap (tab sum_of) same)
    ∙ reduced_tab (prime m) n sum_of out refl
    ∙ tab_cong _ _ n (λ j h. (combination_≈ m row b n j Below-row below_b).same ∙ ap (λ (x : ℕ). x % prime m) (sum_cong (length row) _ _ (λ l k.
    let start : l ≡ 0 * length row + l = omega arith in
    ap (λ (t : ℕ). get_or row t 0 * get_or b (l * n + j) 0) start)))

-- an array whose first n elements are written still has them
pub front_there : (n : ℕ) (old first : List ℕ) → length first ≡ length (take n old) → n ≤ length old → n ≤ length (first ++ drop n old)
front_there n old first same room = omega (arith, length_front old first n same)

-- an output whose first n elements are written
abbrev written : ℕ → List ℕ → List ℕ → List ℕ
written n first out = first ++ drop n out

-- an output of two rows of n
module _ (n : ℕ) (first second out : List ℕ) (one : length first ≡ n) (size : length out ≡ 2 * n) where
  second_size : length (take (length (written n first out) - n) (drop n (written n first out))) ≡ n
  second_size =
      let w = written n first out in
      omega (arith, length-take (length w - n) (drop n w), length-drop n w, length-append first (drop n out), length-drop n out)

  both_written : length second ≡ n
      → take n (written n first out) ++ (second ++ drop (length (written n first out) - n) (drop n (written n first out))) ≡ first ++ second
  both_written two =
      let w = written n first out in
      ap₂ (λ (xs ys : List ℕ). xs ++ (second ++ ys)) (take_at first (drop n out) n one) (drop_of_length-le (drop n w) {i = length w - n} (omega (arith, length-drop n w)))
      ∙ ap (λ (xs : List ℕ). first ++ xs) (append-nil second)

-- two rows of A's share that can be packed
module _ (m : Modulus) (inner : ℕ) (pair b : List ℕ) (small : prime m ≤ 257) (few : inner ≤ 127) (len : length pair ≡ 2 * inner)
    (below-pair : AllBelow (prime m) pair) (below_b : AllBelow (prime m) b) where
  half_exact : (upper : Bool) (weights sums out : List ℕ) → length weights ≡ inner → length out ≡ length sums
      → reduced (prime m) (halves upper (rows_added (zeros sums) (packed pair weights) b (length sums))) out
      ≡ tab (λ j. product_entry inner (length sums) pair b (cond upper 1 0) j % prime m) (length sums)
  unfolding product_entry
  half_exact upper weights sums out same size =
      let n = length sums in
      ap (λ (xs : List ℕ). reduced (prime m) xs out)
      (halves_exact pair b inner n len few (λ i l. lt_of_lt_of_le (below-pair i l) small) (λ i l. lt_of_lt_of_le (below_b i l) small) weights sums upper same)
      ∙ reduced_tab (prime m) n (dot pair b inner n len (cond upper 1 0)) out size

  not_large : large (prime m) ≡ false
  unfolding large
  not_large = lt-leb (2 ^ 26) (prime m) (omega arith)

  -- the weights, the sums and the rows, one made from the other
  pub two_rows : (empty weights sums cleared made first second out : List ℕ) → inner ≤ length empty → length weights ≡ length (take inner empty)
      → weights ≡ packed pair (take inner empty)
      → cleared ≡ zeros sums
      → made ≡ added (prime m) cleared (take inner (weights ++ drop inner empty)) b (length sums)
      → length out ≡ 2 * length sums
      → first ≡ reduced (prime m) (halves false made) (take (length sums) out)
      → let w = written (length sums) first out in
      second ≡ reduced (prime m) (halves true made) (take (length w - length sums) (drop (length sums) w))
      → take (length sums) w ++ (second ++ drop (length w - length sums) (drop (length sums) w)) ≡ product_of (prime m) 2 inner (length sums) pair b
  unfolding product_of grid
  two_rows empty weights sums cleared made first second out wide same is-weights is-cleared is_made size is-first is-second =
      let n = length sums in
      let thin : length (take inner empty) ≡ inner = length-take-le inner empty wide in
      let lent : take inner (weights ++ drop inner empty) ≡ packed pair (take inner empty)
      = take_at weights (drop inner empty) inner (same ∙ thin) ∙ is-weights in
      let sums-are = is_made ∙ added_small (prime m) not_large cleared (take inner (weights ++ drop inner empty)) b n ∙ ap₂ (λ (s w : List ℕ). rows_added s w b n) is-cleared lent in
      let low : first ≡ tab (λ j. product_entry inner n pair b 0 j % prime m) n
      = is-first ∙ ap (λ (xs : List ℕ). reduced (prime m) (halves false xs) (take n out)) sums-are
      ∙ half_exact false (take inner empty) sums (take n out) thin (length-take-le n out (omega arith)) in
      let one : length first ≡ n = ap length low ∙ length_tab _ n in
      let w = written n first out in
      let room = take (length w - n) (drop n w) in
      let high : second ≡ tab (λ j. product_entry inner n pair b 1 j % prime m) n
      = is-second ∙ ap (λ (xs : List ℕ). reduced (prime m) (halves true xs) room) sums-are
      ∙ half_exact true (take inner empty) sums room thin (second_size n first second out one size) in
      both_written n first second out one size (ap length high ∙ length_tab _ n) ∙ ap₂ (λ (xs ys : List ℕ). xs ++ ys) low high

pub part_rows : (q inner columns : ℕ) (a b : List ℕ) (i n : ℕ)
    → product_of q n inner columns (take (n * inner) (drop (i * inner) a)) b ≡ grid (λ k j. product_entry inner columns a b (i + k) j % q) n columns
unfolding product_of product_entry entry
part_rows q inner columns a b i n =
    grid_cong _ _ n columns (λ k j hk hj. ap (λ (x : ℕ). x % q) (sum_cong inner _ _ (λ l hl.
    let there : i * inner + (k * inner + l) ≡ (i + k) * inner + l = omega arith in
    ap (λ (x : ℕ). x * get_or b (l * columns + j) 0)
    (get_or-take (n * inner) (drop (i * inner) a) (k * inner + l) 0 (omega (arith, row_end inner hk))
    ∙ get_or-drop (i * inner) a (k * inner + l) 0
    ∙ ap (λ (t : ℕ). get_or a t 0) there))))

-- the product's elements
unfoldable pub element : Modulus → ℕ → ℕ → List ℕ → List ℕ → ℕ → ℕ → ℕ
element modulus inner columns a b i j = product_entry inner columns a b i j % prime modulus
