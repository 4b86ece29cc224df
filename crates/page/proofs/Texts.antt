-- A page read back: the statement of specs/Reading.antt.
--
--   cell_at_lem         a cell of the text reads back to its number
--   label_at, number_at   what stands in a line: its first columns, and its numbers
--   page_text       the promises about the text of a page
use mathlib.Core.Path.{◌≡◌, refl, sym, ap, ◌∙◌}
use mathlib.Core.List.{List, [], ◌∷◌, ◌++◌, append_assoc}
use Prim.Native.Nat.{ℕ, zero, suc, ◌+◌, ◌-◌, ◌*◌, ◌/◌, ◌%◌, ◌^◌, ◌<◌, ◌≤◌, min}
use native.Mathlib.Omega.{arith}
use lib.ListN.{length, get_or, length-append}
use lib.Seq.{ext_get_or}
use borrow.Author.Tests.{ne_eqb}
use Rattle.algebra.specs.Lists.{tab, stack, entry, AllBelow}
use Rattle.algebra.proofs.Lists.{length_tab, get_or_tab, below_anywhere}
use Rattle.algebra.proofs.Grids.{grid_cong}
use Rattle.algebra.proofs.Stacks.{grid_tab}
use Rattle.text.specs.Ascii.{ascii}
use Rattle.text.specs.Decimal.{digit, decimal}
use Rattle.text.specs.Numerals.{value}
use Rattle.text.proofs.Decimals.{decimal_some, decimal_short, numerals}
use Rattle.page.specs.Page.{spaces, cell, line, panels, across, heading, row, panel, gap, page}
use Rattle.page.specs.Reading.{past_spaces, cell_at, line_at, read_back, PageTexts}
use Rattle.page.proofs.Lengths.{length_spaces, length_cell, number_fits, length_label, length_numbers, length_heading, length_rows, length_panel, length_page}
use Rattle.page.proofs.Places.{At, at_front, at_back, at_then, at_place, at_stack, at_take}

-- ---- a cell

past_spaces_lem : (k : ℕ) (xs : List ℕ) → past_spaces (spaces k ++ xs) ≡ past_spaces xs
unfolding past_spaces spaces tab
past_spaces_lem zero xs = refl
past_spaces_lem (suc k) xs = ap past_spaces (append_assoc (tab (λ i. 32) k) (32 ∷ []) xs) ∙ past_spaces_lem k (32 ∷ xs)

past_none : (xs : List ℕ) → 48 ≤ get_or xs 0 0 → past_spaces xs ≡ xs
unfolding past_spaces
past_none [] h = refl
past_none (x ∷ xs) h = rw (ne_eqb x 32 (λ e. omega arith))

cell_number : (width n : ℕ) → n < 2 ^ 32 → value 0 (past_spaces (cell width n)) ≡ n
unfolding cell digit
cell_number width n h =
    let is = numerals n (omega arith) in
    ap (value 0) (past_spaces_lem (width - length (decimal n)) (decimal n) ∙ past_none (decimal n) (is.digits 0 (decimal_some n)).0)
    ∙ is.value_is

cell_at_lem : {text : List ℕ} {at : ℕ} (width n : ℕ) → At text at (cell width n) → length (decimal n) ≤ width → n < 2 ^ 32 → cell_at text at width ≡ n
unfolding cell_at
cell_at_lem width n u fits h =
    ap (λ (bytes : List ℕ). value 0 (past_spaces bytes)) (at_take width u (length_cell width n fits)) ∙ cell_number width n h

-- ---- a line

module _ (label : List ℕ) (f : ℕ → ℕ) (n : ℕ) where
  label_at : At (line label f n) 0 label
  unfolding line
  label_at = at_front label (stack (λ c. cell 11 (f c)) n ++ ascii "\n")

  number_at : (c : ℕ) → length label ≡ 5 → c < n → At (line label f n) (5 + 11 * c) (cell 11 (f c))
  unfolding line
  number_at c five l =
      let cells : ℕ → List ℕ = λ c. cell 11 (f c) in
      at_place (omega (arith, five, length_numbers f c))
      (at_then (at_back label (stack cells n ++ ascii "\n")) (at_then (at_front (stack cells n) (ascii "\n")) (at_stack cells n c l)))

-- ---- the parts of a page

module _ (t r : ℕ) (table : List ℕ) (tall : t ≤ 16384) where
  part : ℕ → List ℕ
  part p = gap p ++ panel t r table p

  full : (p : ℕ) → suc p < panels r → across r p ≡ 6
  unfolding across panels
  full p l = omega arith

  -- the panels before another are full
  before : (p : ℕ) → p < panels r → length (stack part p) + length (gap p) ≡ p * ((t + 1) * 72 + 1)
  unfolding stack gap part
  before zero l = omega arith
  before (suc p) l =
      let ih = before p (omega arith) in
      let wide : (t + 1) * (6 + 11 * across r p) ≡ (t + 1) * 72 = ap (λ (k : ℕ). (t + 1) * (6 + 11 * k)) (full p l) in
      omega (arith, length-append (stack part p) (part p), length-append (gap p) (panel t r table p), length_panel t r table p tall, ih, wide)

  module _ (p : ℕ) (there : p < panels r) where
    panel_at : At (page t r table) (p * ((t + 1) * 72 + 1)) (panel t r table p)
    unfolding page part
    panel_at = at_place (before p there) (at_then (at_stack part (panels r) p there) (at_back (gap p) (panel t r table p)))

    heading_at : At (page t r table) (line_at t r p 0) (heading r p)
    unfolding panel line_at
    heading_at = at_place (omega arith) (at_then panel_at (at_front (heading r p) (stack (row r table p) t)))

    row_at : (i : ℕ) → i < t → At (page t r table) (line_at t r p (i + 1)) (row r table p i)
    unfolding panel line_at
    row_at i l =
        let wide = 6 + 11 * across r p in
        let more : (i + 1) * wide ≡ i * wide + wide = omega arith in
        at_place (omega (arith, length_rows i r table p (omega arith), more, length_heading r p))
        (at_then (at_then panel_at (at_back (heading r p) (stack (row r table p) t))) (at_stack (row r table p) t i l))

    element_at : (i c : ℕ) → i < t → c < across r p → AllBelow (2 ^ 32) table
        → cell_at (page t r table) (line_at t r p (i + 1) + 5 + 11 * c) 11 ≡ entry r table i (p * 6 + c)
    unfolding row entry
    element_at i c l h small =
        let v = get_or table (i * r + (p * 6 + c)) 0 in
        cell_at_lem 11 v
        (at_place (omega arith) (at_then (row_at i l) (number_at (cell 5 (i + 1)) (λ c. get_or table (i * r + (p * 6 + c)) 0) (across r p) c (length_label i (omega arith)) h)))
        (number_fits v) (below_anywhere (2 ^ 32) table (omega arith) small (i * r + (p * 6 + c)))

    column_at : (c : ℕ) → c < across r p → r ≤ 16384 → cell_at (page t r table) (line_at t r p 0 + 5 + 11 * c) 11 ≡ p * 6 + c + 1
    unfolding heading across
    column_at c h wide =
        cell_at_lem 11 (p * 6 + c + 1)
        (at_place (omega arith) (at_then heading_at (number_at (spaces 5) (λ c. p * 6 + c + 1) (min 6 (r - p * 6)) c (length_spaces 5) h)))
        (number_fits (p * 6 + c + 1)) (omega arith)

    label_reads : (i : ℕ) → i < t → cell_at (page t r table) (line_at t r p (i + 1)) 5 ≡ i + 1
    unfolding row
    label_reads i l =
        cell_at_lem 5 (i + 1)
        (at_place (omega arith) (at_then (row_at i l) (label_at (cell 5 (i + 1)) (λ c. entry r table i (p * 6 + c)) (across r p))))
        (decimal_short (i + 1) (omega arith)) (omega arith)

-- ---- a column's panel, and its place in it

panel_of : (r j : ℕ) → j < r → (j / 6 < panels r) × (j % 6 < across r (j / 6))
unfolding across panels
panel_of r j l = (omega arith, omega arith)

column_is : (j : ℕ) → j / 6 * 6 + j % 6 ≡ j
column_is j = omega arith

module _ (t r : ℕ) (table : List ℕ) (tall : t ≤ 16384) where
  element : AllBelow (2 ^ 32) table → (i j : ℕ) → i < t → j < r
      → cell_at (page t r table) (line_at t r (j / 6) (i + 1) + 5 + 11 * (j % 6)) 11 ≡ get_or table (i * r + j) 0
  unfolding entry
  element small i j a b =
      let there = panel_of r j b in
      element_at t r table tall (j / 6) there.0 i (j % 6) a there.1 small ∙ ap (λ (k : ℕ). get_or table (i * r + k) 0) (column_is j)

  back : length table ≡ t * r → AllBelow (2 ^ 32) table → read_back t r (page t r table) ≡ table
  unfolding read_back
  back exact small =
      let own : ℕ → ℕ = λ k. get_or table k 0 in
      grid_cong _ (λ i j. own (i * r + j)) t r (element small)
      ∙ grid_tab own t r
      ∙ ext_get_or 0 (tab own (t * r)) table (length_tab own (t * r) ∙ sym exact)
      (λ k h. get_or_tab own (t * r) k 0 (omega (arith, length_tab own (t * r))))

pub page_text : PageTexts
page_text t r table t-high r-low r-high exact small = record {
  long = length_page t r table t-high r-low;
  reads_back = back t r table t-high exact small;
  rows = λ p i there l. label_reads t r table t-high p there i l;
  columns = λ j l.
      let there = panel_of r j l in
      column_at t r table t-high (j / 6) there.0 (j % 6) there.1 r-high ∙ ap (λ (k : ℕ). k + 1) (column_is j);
}
