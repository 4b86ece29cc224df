-- How the code counts the elements of a buffer.
--
--   whole_elements bytes == how many elements that many bytes hold; 0, which no block has, where they are no whole number of
--                          elements, or too many for a block
use Rattle.std.specs.Prelude.{cond, ◌||◌, ℕ, ◌/◌, ◌%◌, ltb}
use Rattle.refusal.specs.Chain.{differs}
use Rattle.refusal.specs.Limits.{most_elements}

unfoldable pub whole_elements : ℕ → ℕ
whole_elements bytes = cond (differs (bytes % 4) 0 || ltb most_elements (bytes / 4)) 0 (bytes / 4)
