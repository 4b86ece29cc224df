-- Sums of products, two at a time: a pair of products is added as one term. Where the products are large, the term is their sum
-- folded, so that many of them fit 64 bits.
-- The rows lie in one list, the source, each a stride after the one before; a list reads as 0 past its end.
--
--   fold n                             == n in the base 2^31, its digits added: the same modulo 2^31 - 1, and far smaller
--   folded x y                         == the sum of two products, in 64 bits, folded
--   up_to n f i                         == f i, and 0 from n on
--   pair_at term n f c                  == the term of pair c: f (2c) and f (2c + 1)
--   paired term n f                    == f 0 + .. + f (n - 1), added pair by pair
--   paired_two term sums a row b next   == each sum plus the term of a times the row's element and b times the next one's
--   paired_combination term weights source stride j == the sum over i of weight i times element j of row i, pair by pair
--   paired_added term sums weights source stride    == each sum plus its combination, in 64 bits
use Rattle.std.specs.Prelude.{ℕ, ◌+◌, ◌*◌, ◌/◌, ◌%◌, ◌^◌, cond, List, length, nat_lt, slice_index}
use Rattle.algebra.specs.Lists.{tab, entry}
use Rattle.algebra.specs.Sums.{sum}

unfoldable pub fold : ℕ → ℕ
fold n = n % 2 ^ 31 + n / 2 ^ 31

unfoldable pub folded : ℕ → ℕ → ℕ
folded x y = fold ((x + y) % 2 ^ 64)

unfoldable pub up_to : ℕ → (ℕ → ℕ) → ℕ → ℕ
up_to n f i = cond (nat_lt i n) (f i) 0

unfoldable pub pair_at : (ℕ → ℕ → ℕ) → ℕ → (ℕ → ℕ) → ℕ → ℕ
pair_at term n f c = term (up_to n f (c * 2)) (up_to n f (c * 2 + 1))

unfoldable pub paired : (ℕ → ℕ → ℕ) → ℕ → (ℕ → ℕ) → ℕ
paired term n f = sum ((n + 1) / 2) (pair_at term n f)

unfoldable pub paired_two : (ℕ → ℕ → ℕ) → List ℕ → ℕ → List ℕ → ℕ → List ℕ → List ℕ
paired_two term sums a row b next = tab (λ j. (slice_index sums j + term (a * slice_index row j) (b * slice_index next j)) % 2 ^ 64) (length sums)

unfoldable pub paired_combination : (ℕ → ℕ → ℕ) → List ℕ → List ℕ → ℕ → ℕ → ℕ
paired_combination term weights source stride j = paired term (length weights) (λ i. slice_index weights i * entry stride source i j)

unfoldable pub paired_added : (ℕ → ℕ → ℕ) → List ℕ → List ℕ → List ℕ → ℕ → List ℕ
paired_added term sums weights source stride =
    tab (λ j. (slice_index sums j + paired_combination term weights source stride j) % 2 ^ 64) (length sums)
