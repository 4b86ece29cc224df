-- How the code makes a page: a line from the numbers that stand in it, and the tests at a modulus.
--
--   line_of label numbers == the line of these numbers
--   table_tests q t r table room == the tests of a page behind that of its modulus number, where q is the modulus
use Rattle.std.specs.Prelude.{not, ◌||◌, List, [], ◌∷◌, ℕ, ◌*◌, length, get_or}
use Rattle.algebra.specs.Lists.{all_below}
use Rattle.refusal.specs.Chain.{Test, outside, differs}
use Rattle.page.specs.Page.{line, page_length}

unfoldable pub line_of : List ℕ → List ℕ → List ℕ
line_of label numbers = line label (λ c. get_or numbers c 0) (length numbers)

unfoldable pub table_tests : ℕ → ℕ → ℕ → List ℕ → ℕ → List Test
table_tests q t r table room =
    (outside 1 16384 t || outside 1 16384 r, 2)
    ∷ (differs (length table) (t * r), 13)
    ∷ (differs room (page_length t r), 28)
    ∷ (not (all_below q table), 14) ∷ []
