-- The kinship page (02, U6): a table of t rows and r columns as lines of text.
-- Rows, columns and panels count from 0 here, and from 1 on the page.
--
--   spaces n           == so many spaces
--   cell width n       == the number in decimal, right-aligned in so many columns
--   line label f n     == a line: its first 5 columns, then the numbers f 0, f 1, .., f (n - 1) in 11 columns each, and LF
--   panels r           == how many panels a table of r columns has
--   across r p         == how many columns stand in panel p: six, and in the last one what is left
--   heading r p        == a panel's first line: 5 spaces and its column numbers
--   row r table p i    == the line of row i in panel p: the row number and its elements
--   panel t r table p  == a panel: its heading and the lines of all rows
--   gap p              == what stands before panel p: a blank line, but none before the first
--   page t r table     == the panels, one blank line between
--   page_length t r     == how many bytes a page has
--   room_for t r        == how many bytes the output of a page must have; 0 where a size is out of range
--   page_tests n t r table room == the refusals of a page at modulus number n, in the sheet's order; room is the output's length
--   page_after n t r table out  == what the output then holds
use Rattle.std.specs.Prelude.{not, cond, ◌||◌, List, [], ◌∷◌, ◌++◌, ℕ, zero, suc, ◌+◌, ◌-◌, ◌*◌, ◌/◌, min, length}
use Rattle.algebra.specs.Lists.{tab, stack, entry, all_below}
use Rattle.refusal.specs.Chain.{Test, unless_refused, outside, differs}
use Rattle.field.specs.Modulus.{modulus, no_modulus}
use Rattle.text.specs.Ascii.{ascii}
use Rattle.text.specs.Decimal.{decimal}

unfoldable pub spaces : ℕ → List ℕ
spaces n = tab (λ i. 32) n

unfoldable pub cell : ℕ → ℕ → List ℕ
cell width n = spaces (width - length (decimal n)) ++ decimal n

unfoldable pub line : List ℕ → (ℕ → ℕ) → ℕ → List ℕ
line label f n = label ++ (stack (λ c. cell 11 (f c)) n ++ ascii "\n")

unfoldable pub panels : ℕ → ℕ
panels r = (r + 5) / 6

unfoldable pub across : ℕ → ℕ → ℕ
across r p = min 6 (r - p * 6)

unfoldable pub heading : ℕ → ℕ → List ℕ
heading r p = line (spaces 5) (λ c. p * 6 + c + 1) (across r p)

unfoldable pub row : ℕ → List ℕ → ℕ → ℕ → List ℕ
row r table p i = line (cell 5 (i + 1)) (λ c. entry r table i (p * 6 + c)) (across r p)

unfoldable pub panel : ℕ → ℕ → List ℕ → ℕ → List ℕ
panel t r table p = heading r p ++ stack (row r table p) t

unfoldable pub gap : ℕ → List ℕ
gap zero = []
gap (suc p) = ascii "\n"

unfoldable pub page : ℕ → ℕ → List ℕ → List ℕ
page t r table = stack (λ p. gap p ++ panel t r table p) (panels r)

unfoldable pub page_length : ℕ → ℕ → ℕ
page_length t r = (t + 1) * (6 * panels r + 11 * r) + (panels r - 1)

unfoldable pub room_for : ℕ → ℕ → ℕ
room_for t r = cond (outside 1 16384 t || outside 1 16384 r) 0 (page_length t r)

unfoldable pub page_tests : ℕ → ℕ → ℕ → List ℕ → ℕ → List Test
page_tests n t r table room =
    (no_modulus n, 1)
    ∷ (outside 1 16384 t || outside 1 16384 r, 2)
    ∷ (differs (length table) (t * r), 13)
    ∷ (differs room (page_length t r), 28)
    ∷ (not (all_below (modulus n) table), 14) ∷ []

unfoldable pub page_after : ℕ → ℕ → ℕ → List ℕ → List ℕ → List ℕ
page_after n t r table out = unless_refused (page_tests n t r table (length out)) (page t r table) out
