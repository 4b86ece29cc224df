-- Sums of products of elements modulo each prime, in 64 bits: folded where the prime is large.
-- The rows lie in one list, the source, each a stride after the one before; a list reads as 0 past its end.
--
--   large q                               == 4096 products of numbers up to q do not fit 64 bits
--   pair_term q x y                        == two products as one number: their sum, folded where q is large
--   total q n f                           == f 0 + .. + f (n - 1), pair by pair
--   combination q weights source stride j == the sum over i of weight i times element j of row i, pair by pair
--   plus_one q sums weight row             == each sum plus weight times the row's element
--   plus_two q sums a row b next           == each sum plus a times the row's element and b times the next one's
--   added q sums weights source stride    == each sum plus its combination, in 64 bits
use Rattle.std.specs.Prelude.{Bool, cond, List, ℕ, ◌+◌, ◌^◌, leb}
use Rattle.sums_folded.specs.Internal.{folded, paired, paired_two, paired_combination, paired_added}

unfoldable pub large : ℕ → Bool
large q = leb (2 ^ 26) q

unfoldable pub pair_term : ℕ → ℕ → ℕ → ℕ
pair_term q x y = cond (large q) (folded x y) (x + y)

abbrev pub total : ℕ → ℕ → (ℕ → ℕ) → ℕ
total q n f = paired (pair_term q) n f

abbrev pub combination : ℕ → List ℕ → List ℕ → ℕ → ℕ → ℕ
combination q weights source stride j = paired_combination (pair_term q) weights source stride j

abbrev pub plus_two : ℕ → List ℕ → ℕ → List ℕ → ℕ → List ℕ → List ℕ
plus_two q sums a row b next = paired_two (pair_term q) sums a row b next

abbrev pub plus_one : ℕ → List ℕ → ℕ → List ℕ → List ℕ
plus_one q sums weight row = plus_two q sums weight row 0 row

abbrev pub added : ℕ → List ℕ → List ℕ → List ℕ → ℕ → List ℕ
added q sums weights source stride = paired_added (pair_term q) sums weights source stride
