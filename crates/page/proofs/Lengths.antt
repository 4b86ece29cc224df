-- How long the parts of a page are.
--
--   length_spaces                spaces
--   length_cell, number_fits     a number that has room in a cell fills it; in 11 columns every number has
--   length_label                 the first columns of a row's line
--   length_numbers, length_line  the numbers of a line, and a line
--   length_heading, length_row   a heading, and the line of a row
--   length_rows, length_panel    the lines of the rows, and a panel
--   length_page                  a page has `pageLength` bytes
use mathlib.Core.Path.{◌≡◌, refl, ap, ap₂, ◌∙◌}
use mathlib.Core.List.{List, [], ◌∷◌, ◌++◌}
use Prim.Native.Nat.{ℕ, zero, suc, ◌+◌, ◌-◌, ◌*◌, ◌/◌, ◌≤◌, ◌<◌, min}
use native.Mathlib.Omega.{arith}
use lib.ListN.{length, length-append}
use Rattle.algebra.specs.Lists.{stack}
use Rattle.algebra.specs.Sums.{sum}
use Rattle.algebra.proofs.Lists.{length_tab}
use Rattle.algebra.proofs.Stacks.{length_stack, length_parts}
use Rattle.algebra.proofs.Sums.{sum_cong, sum_add, sum_mul, sum_flat}
use Rattle.text.specs.Decimal.{decimal}
use Rattle.text.proofs.Decimals.{decimal_length, decimal_short}
use Rattle.page.specs.Page.{spaces, cell, line, panels, across, heading, row, panel, gap, page, page_length}

pub length_spaces : (n : ℕ) → length (spaces n) ≡ n
unfolding spaces
length_spaces n = length_tab {A = ℕ} (λ i. 32) n

pub length_cell : (width n : ℕ) → length (decimal n) ≤ width → length (cell width n) ≡ width
unfolding cell
length_cell width n l =
    omega (arith, length-append (spaces (width - length (decimal n))) (decimal n), length_spaces (width - length (decimal n)))

pub number_fits : (n : ℕ) → length (decimal n) ≤ 11
number_fits n = omega (arith, decimal_length n)

pub length_label : (i : ℕ) → i < 16384 → length (cell 5 (i + 1)) ≡ 5
length_label i h = length_cell 5 (i + 1) (decimal_short (i + 1) (omega arith))

-- the numbers of a line
pub length_numbers : (f : ℕ → ℕ) (n : ℕ) → length (stack (λ c. cell 11 (f c)) n) ≡ n * 11
length_numbers f n = length_stack (λ c. cell 11 (f c)) n 11 (λ c h. length_cell 11 (f c) (number_fits (f c)))

length_line : (label : List ℕ) (f : ℕ → ℕ) (n : ℕ) → length label ≡ 5 → length (line label f n) ≡ 6 + 11 * n
unfolding line
length_line label f n five =
    let numbers = stack (λ c. cell 11 (f c)) n in
    omega (arith, length-append label (numbers ++ (10 ∷ [])), five, length-append numbers (10 ∷ []), length_numbers f n)

pub length_heading : (r p : ℕ) → length (heading r p) ≡ 6 + 11 * across r p
unfolding heading
length_heading r p = length_line (spaces 5) _ (across r p) (length_spaces 5)

length_row : (r : ℕ) (table : List ℕ) (p i : ℕ) → i < 16384 → length (row r table p i) ≡ 6 + 11 * across r p
unfolding row
length_row r table p i h = length_line (cell 5 (i + 1)) _ (across r p) (length_label i h)

pub length_rows : (t r : ℕ) (table : List ℕ) (p : ℕ) → t ≤ 16384 → length (stack (row r table p) t) ≡ t * (6 + 11 * across r p)
length_rows t r table p h = length_stack (row r table p) t (6 + 11 * across r p) (λ i l. length_row r table p i (omega arith))

pub length_panel : (t r : ℕ) (table : List ℕ) (p : ℕ) → t ≤ 16384 → length (panel t r table p) ≡ (t + 1) * (6 + 11 * across r p)
unfolding panel
length_panel t r table p h =
    let wide = 6 + 11 * across r p in
    let more : (t + 1) * wide ≡ t * wide + wide = omega arith in
    omega (arith, length-append (heading r p) (stack (row r table p) t), length_heading r p, length_rows t r table p h, more)

-- the columns of the first n panels, and of all
columns_so_far : (r n : ℕ) → sum n (across r) ≡ min (n * 6) r
unfolding sum across
columns_so_far r zero = omega arith
columns_so_far r (suc n) = omega (arith, columns_so_far r n)

columns_all : (r : ℕ) → sum (panels r) (across r) ≡ r
unfolding panels
columns_all r = omega (arith, columns_so_far r ((r + 5) / 6))

-- a blank line stands before every panel but the first
breaks : (n : ℕ) → sum (suc n) (λ p. length (gap p)) ≡ n
unfolding sum gap
breaks zero = refl
breaks (suc n) = omega (arith, breaks n)

-- the bytes of a column of lines over n panels
widths : (r n : ℕ) → sum n (λ p. 6 + 11 * across r p) ≡ 6 * n + 11 * sum n (across r)
widths r n = omega (arith, sum_add n (λ p. 6) (λ p. 11 * across r p), sum_flat n 6, sum_mul n 11 (across r))

-- a table of one column or more has a panel
at_least_one : (r : ℕ) → 1 ≤ r → panels r ≡ suc (panels r - 1)
unfolding panels
at_least_one r some = omega arith

pub length_page : (t r : ℕ) (table : List ℕ) → t ≤ 16384 → 1 ≤ r → length (page t r table) ≡ page_length t r
unfolding page page_length
length_page t r table h some =
    let n = panels r in
    let one : n ≡ suc (n - 1) = at_least_one r some in
    let part : ℕ → List ℕ = λ p. gap p ++ panel t r table p in
    length_parts part n
    ∙ sum_cong n (λ p. length (part p)) (λ p. length (gap p) + (t + 1) * (6 + 11 * across r p))
    (λ p l. length-append (gap p) (panel t r table p) ∙ ap (λ (k : ℕ). length (gap p) + k) (length_panel t r table p h))
    ∙ sum_add n (λ p. length (gap p)) (λ p. (t + 1) * (6 + 11 * across r p))
    ∙ ap₂ ◌+◌ (ap (λ (k : ℕ). sum k (λ p. length (gap p))) one ∙ breaks (n - 1)) (sum_mul n (t + 1) (λ p. 6 + 11 * across r p))
    ∙ ap (λ (k : ℕ). n - 1 + (t + 1) * k) (widths r n ∙ ap (λ (k : ℕ). 6 * n + 11 * k) (columns_all r))
    ∙ omega arith
