-- Limits that several calls test (01, "The job").
--
--   most_elements                == the most elements that a block has
--   any_outside most x y z       == one of three numbers is not in 1..most
--   sizes_outside x y z          == one of three sizes is not in 1..16384: the test of refusal 2
--   over_block rows inner columns == a block of rows by inner, inner by columns or rows by columns has too many elements: the
--                                  test of refusal 6
use Rattle.std.specs.Prelude.{Bool, ◌||◌, ℕ, ◌*◌, ltb}
use Rattle.refusal.specs.Chain.{outside}

abbrev pub most_elements : ℕ
most_elements = 4096

unfoldable pub any_outside : ℕ → ℕ → ℕ → ℕ → Bool
any_outside most x y z = outside 1 most x || outside 1 most y || outside 1 most z

unfoldable pub sizes_outside : ℕ → ℕ → ℕ → Bool
sizes_outside = any_outside 16384

unfoldable pub over_block : ℕ → ℕ → ℕ → Bool
over_block rows inner columns = ltb most_elements (rows * inner) || ltb most_elements (inner * columns) || ltb most_elements (rows * columns)
