-- Linear combinations of rows: what a product, a share and a decoded table are made of.
-- The rows lie in one list, the source, each a stride after the one before; a list reads as 0 past its end.
--
--   plus sums weight row                 == each sum plus weight times the row's element, in 64 bits
--   combination weights source stride j == the sum over i of weight i times element j of row i
--   added sums weights source stride    == each sum plus its combination, in 64 bits
use Rattle.std.specs.Prelude.{ℕ, ◌+◌, ◌*◌, ◌%◌, ◌^◌, List, length, slice_index}
use Rattle.algebra.specs.Lists.{tab, entry}
use Rattle.algebra.specs.Sums.{sum}

unfoldable pub plus : List ℕ → ℕ → List ℕ → List ℕ
plus sums weight row = tab (λ j. (slice_index sums j + weight * slice_index row j) % 2 ^ 64) (length sums)

unfoldable pub combination : List ℕ → List ℕ → ℕ → ℕ → ℕ
combination weights source stride j = sum (length weights) (λ i. slice_index weights i * entry stride source i j)

unfoldable pub added : List ℕ → List ℕ → List ℕ → ℕ → List ℕ
added sums weights source stride = tab (λ j. (slice_index sums j + combination weights source stride j) % 2 ^ 64) (length sums)
