-- Packed rows of small numbers: no number is lost, and the sums keep their halves apart.
--
--   dot                   a row, times the rows of the source, summed
--   packed_exact          the pairs fit 32 bits
--   combination_packed    a combination by packed weights is the pair of both rows' sums
--   apart                 each of them is below the radix
--   halves_exact          so the halves of the sums are the sums of each row
use mathlib.Core.Path.{◌≡◌, ap, ap₂, ◌∙◌}
use mathlib.Core.Bool.{Bool, true, false, cond}
use mathlib.Core.List.{List, ◌++◌}
use Prim.Native.Nat.{ℕ, ◌+◌, ◌*◌, ◌/◌, ◌<◌, ◌≤◌, min}
use native.Mathlib.Nat.{le_of_lt, mul-le-mul}
use native.Mathlib.Omega.{arith}
use lib.Dec.{lit<}
use lib.ListN.{length, get_or, drop}
use Rattle.algebra.specs.Lists.{tab, entry, AllBelow}
use Rattle.algebra.specs.Sums.{sum}
use Rattle.algebra.proofs.Lists.{length_tab, get_or_tab, below_anywhere}
use Rattle.algebra.proofs.Grids.{tab_cong}
use Rattle.algebra.proofs.Sums.{sum_cong, sum_bound, sum_add, sum_mul}
use Rattle.algebra.proofs.Fronts.{front_all}
use Rattle.sums.specs.Internal.{zeros}
use Rattle.sums_rows.specs.Internal.{combination, added}
use Rattle.sums_rows.proofs.Exact.{added_zeros}
use Rattle.sums_packed.specs.Internal.{radix, pair, packed, half, halves}

-- two rows of n numbers, and the rows that they weigh
module _ (rows source : List ℕ) (n stride : ℕ) (len : length rows ≡ 2 * n) where
  abbrev pub dot : ℕ → ℕ → ℕ
  dot u j = sum n (λ i. entry n rows u i * entry stride source i j)

  -- the pair at k, where it fits
  both : ℕ → ℕ
  both k = entry n rows 0 k + radix * entry n rows 1 k

  combination_packed : (j : ℕ) → combination (tab both n) source stride j ≡ dot 0 j + radix * dot 1 j
  unfolding combination both
  combination_packed j =
      let e : ℕ → ℕ = λ i. entry stride source i j in
      ap (λ (k : ℕ). sum k (λ i. get_or (tab both n) i 0 * e i)) (length_tab both n)
      ∙ sum_cong n _ _ (λ i l.
      let here : get_or (tab both n) i 0 * e i ≡ both i * e i = ap (λ (x : ℕ). x * e i) (get_or_tab both n i 0 l) in
      let split : get_or (tab both n) i 0 * e i ≡ entry n rows 0 i * e i + radix * (entry n rows 1 i * e i) = omega arith in
      split)
      ∙ sum_add n (λ i. entry n rows 0 i * e i) (λ i. radix * (entry n rows 1 i * e i))
      ∙ ap (λ (x : ℕ). dot 0 j + x) (sum_mul n radix (λ i. entry n rows 1 i * e i))

  -- not too many of them, and all of them small
  module _ (few : n ≤ 127) (low : AllBelow 257 rows) (below : AllBelow 257 source) where
    packed_exact : (out : List ℕ) → length out ≡ n → packed rows out ≡ tab both n
    unfolding packed both entry
    packed_exact out room =
        let middle : length rows / 2 ≡ n = omega arith in
        let all : min (length rows / 2) (length out) ≡ n = omega arith in
        ap₂ (λ (h k : ℕ). tab (λ i. pair (get_or rows i 0) (get_or rows (h + i) 0)) k ++ drop k out) middle all
        ∙ front_all _ out n (omega arith)
        ∙ tab_cong _ _ n (λ k l.
        let first : get_or rows k 0 ≡ get_or rows (0 * n + k) 0 = let e : k ≡ 0 * n + k = omega arith in ap (λ (t : ℕ). get_or rows t 0) e in
        let second : get_or rows (n + k) 0 ≡ get_or rows (1 * n + k) 0 = let e : n + k ≡ 1 * n + k = omega arith in ap (λ (t : ℕ). get_or rows t 0) e in
        let fits : pair (get_or rows k 0) (get_or rows (n + k) 0) ≡ get_or rows (0 * n + k) 0 + radix * get_or rows (1 * n + k) 0
        = omega (arith, below_anywhere 257 rows (lit< tt) low k, below_anywhere 257 rows (lit< tt) low (n + k)) in
        fits)

    apart : (u j : ℕ) → dot u j < radix
    unfolding entry
    apart u j =
        let most = sum_bound n (257 * 257) (λ i. entry n rows u i * entry stride source i j) (λ i l.
        mul-le-mul (le_of_lt (below_anywhere 257 rows (lit< tt) low (u * n + i))) (le_of_lt (below_anywhere 257 source (lit< tt) below (i * stride + j)))) in
        omega arith

    pub halves_exact : (out sums : List ℕ) (upper : Bool) → length out ≡ n
        → halves upper (added (zeros sums) (packed rows out) source stride) ≡ tab (dot (cond upper 1 0)) (length sums)
    unfolding halves
    halves_exact out sums upper room =
        let m = length sums in
        let f = combination (tab both n) source stride in
        let made : added (zeros sums) (packed rows out) source stride ≡ tab f m
        = ap (λ (w : List ℕ). added (zeros sums) w source stride) (packed_exact out room)
        ∙ added_zeros (tab both n) source stride sums (λ j l. omega (arith, apart 0 j, apart 1 j, combination_packed j)) in
        ap (λ (xs : List ℕ). tab (λ j. half upper (get_or xs j 0)) (length xs)) made
        ∙ ap (tab (λ j. half upper (get_or (tab f m) j 0))) (length_tab f m)
        ∙ tab_cong _ _ m (λ j l. ap (half upper) (get_or_tab f m j 0 l ∙ combination_packed j) ∙ of upper j)
      where
        of : (u : Bool) (j : ℕ) → half u (dot 0 j + radix * dot 1 j) ≡ dot (cond u 1 0) j
        of true j = omega (arith, apart 0 j, apart 1 j)
        of false j = omega (arith, apart 0 j)
