-- What only the contracts of reading and writing elements cite.
--
--   common bytes xs == how many elements the bytes and the list xs both have room for
use Rattle.std.specs.Prelude.{List, ℕ, ◌/◌, min, length}

unfoldable pub common : List ℕ → List ℕ → ℕ
common bytes xs = min (length bytes / 4) (length xs)
