-- The lines of a page by the numbers that stand in them.
--
--   gap_later    what stands before every panel but the first
--   line_is      a line of given numbers
--   heading_is   a heading: the first of six column numbers
--   row_is       a row's line: a part of the table
--   across_fits  a panel's columns are columns of the table
use mathlib.Core.Path.{◌≡◌, refl, ap, ◌∙◌}
use mathlib.Core.List.{List, ◌++◌}
use Prim.Native.Nat.{ℕ, zero, suc, ◌+◌, ◌*◌, ◌<◌, ◌≤◌}
use native.Mathlib.Omega.{arith}
use lib.ListN.{length, get_or, take, drop, length-drop}
use lib.Seq.{length-take-le, get_or-take, get_or-drop}
use Rattle.algebra.specs.Lists.{tab, stack, entry}
use Rattle.algebra.proofs.Lists.{length_tab, get_or_tab}
use Rattle.algebra.proofs.Stacks.{stack_cong}
use Rattle.text.specs.Ascii.{ascii}
use Rattle.page.specs.Page.{spaces, cell, line, panels, across, heading, row, gap}
use Rattle.page.specs.Internal.{line_of}

pub gap_later : (p : ℕ) → 0 < p → gap p ≡ ascii "\n"
unfolding gap
gap_later zero h = absurd (omega arith)
gap_later (suc p) h = refl

line_is : (label numbers : List ℕ) (f : ℕ → ℕ) (n : ℕ) → length numbers ≡ n → ((c : ℕ) → c < n → get_or numbers c 0 ≡ f c)
    → line_of label numbers ≡ line label f n
unfolding line_of line
line_is label numbers f n long each =
    let cells : ℕ → List ℕ = λ c. cell 11 (get_or numbers c 0) in
    ap (λ (k : ℕ). label ++ (stack cells k ++ ascii "\n")) long
    ∙ ap (λ (xs : List ℕ). label ++ (xs ++ ascii "\n")) (stack_cong cells (λ c. cell 11 (f c)) n (λ c l. ap (cell 11) (each c l)))

pub across_fits : (r p : ℕ) → p < panels r → (across r p ≤ 6) × (p * 6 + across r p ≤ r)
unfolding across panels
across_fits r p h = (omega arith, omega arith)

pub heading_is : (r p : ℕ) (columns : List ℕ) {count : ℕ} → p < panels r → columns ≡ tab (λ c. p * 6 + c + 1) 6 → count ≡ across r p
    → line_of (spaces 5) (take count columns) ≡ heading r p
unfolding heading
heading_is r p columns {count} there is wide =
    let six : length columns ≡ 6 = ap length is ∙ length_tab (λ (c : ℕ). p * 6 + c + 1) 6 in
    let few = across_fits r p there in
    line_is (spaces 5) (take count columns) (λ c. p * 6 + c + 1) (across r p)
    (length-take-le count columns (omega arith) ∙ wide)
    (λ c l. get_or-take count columns c 0 (omega arith) ∙ ap (λ (xs : List ℕ). get_or xs c 0) is ∙ get_or_tab (λ (k : ℕ). p * 6 + k + 1) 6 c 0 (omega arith))

pub row_is : (r : ℕ) (table : List ℕ) (p i : ℕ) {start count : ℕ} → start ≡ i * r + p * 6 → count ≡ across r p → start + count ≤ length table
    → line_of (cell 5 (i + 1)) (take count (drop start table)) ≡ row r table p i
unfolding row entry
row_is r table p i {start} {count} begins wide inside =
    let part = drop start table in
    line_is (cell 5 (i + 1)) (take count part) (λ c. get_or table (i * r + (p * 6 + c)) 0) (across r p)
    (length-take-le count part (omega (arith, length-drop start table)) ∙ wide)
    (λ c l.
    let place : start + c ≡ i * r + (p * 6 + c) = omega arith in
    get_or-take count part c 0 (omega arith) ∙ get_or-drop start table c 0 ∙ ap (λ (k : ℕ). get_or table k 0) place)
