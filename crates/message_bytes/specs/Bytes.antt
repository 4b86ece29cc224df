-- Numbers and elements as bytes (01, "Message, version 1": big-endian; elements 4 bytes each).
--
--   big_endian width x          == the last bytes of x, as many as the width, the highest first
--   number_at bytes start width == the number that the bytes from offset `start` on hold, as many as the width
--   bytes_of xs                 == the elements xs as bytes
--   elements_of n bytes         == the first n elements that the bytes hold
use Rattle.std.specs.Prelude.{List, [], ◌∷◌, ◌++◌, ℕ, zero, suc, ◌+◌, ◌*◌, ◌/◌, ◌%◌, get_or}
use Rattle.algebra.specs.Lists.{tab}

unfoldable pub big_endian : ℕ → ℕ → List ℕ
big_endian zero x = []
big_endian (suc width) x = big_endian width (x / 256) ++ x % 256 ∷ []

unfoldable pub number_at : List ℕ → ℕ → ℕ → ℕ
number_at bytes start zero = 0
number_at bytes start (suc width) = number_at bytes start width * 256 + get_or bytes (start + width) 0

unfoldable pub bytes_of : List ℕ → List ℕ
bytes_of [] = []
bytes_of (x ∷ xs) = big_endian 4 x ++ bytes_of xs

unfoldable pub elements_of : ℕ → List ℕ → List ℕ
elements_of n bytes = tab (λ i. number_at bytes (i * 4) 4) n
