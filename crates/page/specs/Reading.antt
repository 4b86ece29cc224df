-- A page read back (02, U6: "The page's length is a plain formula of t and r, and the digits read back to the table").
--
--   past_spaces bytes     == the bytes from the first on that is no space
--   cell_at text at width == the number in the cell of that width at an offset of the text
--   line_at t r p i       == where line i of panel p begins: line 0 is the heading, line i + 1 that of row i
--   read_back t r text    == the table that a text tells
--   PageText t r table   == what is promised of the text of a page
--   PageTexts            == it holds for every table of 32-bit elements
use Rattle.std.specs.Prelude.{◌≡◌, cond, List, [], ◌∷◌, ℕ, ◌+◌, ◌*◌, ◌/◌, ◌%◌, ◌^◌, ◌<◌, ◌≤◌, eqb, length, take, drop}
use Rattle.algebra.specs.Lists.{grid, AllBelow}
use Rattle.text.specs.Numerals.{value}
use Rattle.page.specs.Page.{panels, across, page, page_length}

unfoldable pub past_spaces : List ℕ → List ℕ
past_spaces [] = []
past_spaces (b ∷ bytes) = let past = past_spaces bytes in cond (eqb b 32) past (b ∷ bytes)

unfoldable pub cell_at : List ℕ → ℕ → ℕ → ℕ
cell_at text at width = value 0 (past_spaces (take width (drop at text)))

-- a panel before another has six columns: t + 1 lines of 72 bytes, and a blank line behind it
unfoldable pub line_at : ℕ → ℕ → ℕ → ℕ → ℕ
line_at t r p i = p * ((t + 1) * 72 + 1) + i * (6 + 11 * across r p)

unfoldable pub read_back : ℕ → ℕ → List ℕ → List ℕ
read_back t r text = grid (λ i j. cell_at text (line_at t r (j / 6) (i + 1) + 5 + 11 * (j % 6)) 11) t r

pub record PageText (t r : ℕ) (table : List ℕ) : Type 0 where
  pub long : length (page t r table) ≡ page_length t r
  pub reads_back : read_back t r (page t r table) ≡ table
  -- row and column numbers, from 1 on
  pub rows : (p i : ℕ) → p < panels r → i < t → cell_at (page t r table) (line_at t r p (i + 1)) 5 ≡ i + 1
  pub columns : (j : ℕ) → j < r → cell_at (page t r table) (line_at t r (j / 6) 0 + 5 + 11 * (j % 6)) 11 ≡ j + 1

abbrev pub PageTexts : Type 0
PageTexts = (t r : ℕ) (table : List ℕ) → t ≤ 16384 → 1 ≤ r → r ≤ 16384 → length table ≡ t * r → AllBelow (2 ^ 32) table
    → PageText t r table
