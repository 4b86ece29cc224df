-- Laws of matrices as lists, row by row.
--
--   tab_cong, grid_cong       equal elements
--   length_grid, get_or_grid    a grid has its length and its elements
--   entry_grid                the same, by row and column
--   below_grid                a grid of small numbers
--   row_grid                  a row of a grid, which more elements may follow
--   rows_none, rows_some, rows_more, rows_all  a list that is filled some rows at a time, or row by row, becomes a grid
use mathlib.Core.Path.{◌≡◌, refl, sym, ap, ap₂, ◌∙◌}
use mathlib.Core.Logic.{⊎_elim}
use mathlib.Core.List.{List, [], ◌∷◌, ◌++◌, append_assoc, append-nil}
use Prim.Native.Nat.{ℕ, zero, suc, ◌+◌, ◌*◌, ◌<◌}
use native.Mathlib.Nat.{not-suc-le-zero, le_of_suc-le-suc, eq-or-lt_of_le, lt-suc_self, mul-le-mul_right, add-zero, add-suc}
use native.Mathlib.Omega.{arith}
use lib.ListN.{length, get_or, take, drop, length-append, get_or-append, drop_of_length-le}
use lib.Seq.{get_or-append-add, take_at, drop_at, drop-drop}
use Rattle.algebra.specs.Lists.{tab, grid, entry, AllBelow}
use Rattle.algebra.proofs.Lists.{length_tab, get_or_tab, below_append, below_tab}

pub tab_cong : (f g : ℕ → ℕ) (n : ℕ) → ((i : ℕ) → i < n → f i ≡ g i) → tab f n ≡ tab g n
unfolding tab
tab_cong f g zero h = refl
tab_cong f g (suc n) h = ap₂ (λ (xs : List ℕ) (x : ℕ). xs ++ (x ∷ [])) (tab_cong f g n (λ i l. h i (omega arith))) (h n (lt-suc_self n))

pub grid_cong : (f g : ℕ → ℕ → ℕ) (rows columns : ℕ) → ((i j : ℕ) → i < rows → j < columns → f i j ≡ g i j)
    → grid f rows columns ≡ grid g rows columns
unfolding grid
grid_cong f g zero columns h = refl
grid_cong f g (suc rows) columns h =
    ap₂ (λ (xs ys : List ℕ). xs ++ ys) (grid_cong f g rows columns (λ i j a b. h i j (omega arith) b))
    (tab_cong (f rows) (g rows) columns (λ j b. h rows j (lt-suc_self rows) b))

module _ (f : ℕ → ℕ → ℕ) where
  pub length_grid : (rows columns : ℕ) → length (grid f rows columns) ≡ rows * columns
  unfolding grid
  length_grid zero columns = omega arith
  length_grid (suc rows) columns =
      omega (arith, length-append (grid f rows columns) (tab (f rows) columns), length_grid rows columns, length_tab (f rows) columns)

  pub get_or_grid : (rows columns i j : ℕ) (d : ℕ) → i < rows → j < columns → get_or (grid f rows columns) (i * columns + j) d ≡ f i j
  unfolding grid
  get_or_grid zero columns i j d a b = absurd (not-suc-le-zero a)
  get_or_grid (suc rows) columns i j d a b =
      ⊎_elim
      (λ (e : i ≡ rows).
      let start : i * columns + j ≡ length (grid f rows columns) + j = omega (arith, length_grid rows columns, ap (λ (k : ℕ). k * columns) e) in
      ap (λ (k : ℕ). get_or (grid f rows columns ++ tab (f rows) columns) k d) start
      ∙ get_or-append-add (grid f rows columns) (tab (f rows) columns) j d
      ∙ get_or_tab (f rows) columns j d b
      ∙ ap (λ (k : ℕ). f k j) (sym e))
      (λ (l : i < rows).
      get_or-append (grid f rows columns) (tab (f rows) columns) d (i * columns + j)
      (omega (arith, length_grid rows columns, mul-le-mul_right columns l))
      ∙ get_or_grid rows columns i j d l b)
      (eq-or-lt_of_le (le_of_suc-le-suc a))

  pub entry_grid : (rows columns i j : ℕ) → i < rows → j < columns → entry columns (grid f rows columns) i j ≡ f i j
  unfolding entry
  entry_grid rows columns i j a b = get_or_grid rows columns i j 0 a b

  pub below_grid : (q rows columns : ℕ) → ((i j : ℕ) → f i j < q) → AllBelow q (grid f rows columns)
  unfolding grid
  below_grid q zero columns h i l = absurd (not-suc-le-zero l)
  below_grid q (suc rows) columns h i l =
      below_append q (grid f rows columns) (tab (f rows) columns) (below_grid q rows columns h) (below_tab q (f rows) columns (h rows)) i l

  pub row_grid : (rows columns i : ℕ) (rest : List ℕ) → i < rows
      → take columns (drop (i * columns) (grid f rows columns ++ rest)) ≡ tab (f i) columns
  unfolding grid
  row_grid zero columns i rest a = absurd (not-suc-le-zero a)
  row_grid (suc rows) columns i rest a =
      ap (λ (l : List ℕ). take columns (drop (i * columns) l)) (append_assoc (grid f rows columns) (tab (f rows) columns) rest)
      ∙ ⊎_elim
      (λ (e : i ≡ rows).
      let start : length (grid f rows columns) ≡ i * columns = length_grid rows columns ∙ ap (λ (k : ℕ). k * columns) (sym e) in
      ap (take columns) (drop_at (grid f rows columns) (tab (f rows) columns ++ rest) (i * columns) start)
      ∙ take_at (tab (f rows) columns) rest columns (length_tab (f rows) columns)
      ∙ ap (λ (k : ℕ). tab (f k) columns) (sym e))
      (λ (l : i < rows). row_grid rows columns i (tab (f rows) columns ++ rest) l)
      (eq-or-lt_of_le (le_of_suc-le-suc a))

  pub rows_none : (xs : List ℕ) (columns : ℕ) → xs ≡ grid f 0 columns ++ drop (0 * columns) xs
  unfolding grid
  rows_none xs columns = let none : 0 ≡ 0 * columns = omega arith in ap (λ (k : ℕ). drop k xs) none

  grid_append : (i n columns : ℕ) → grid f (i + n) columns ≡ grid f i columns ++ grid (λ k. f (i + k)) n columns
  unfolding grid
  grid_append i zero columns = rw add-zero (sym (append-nil (grid f i columns)))
  grid_append i (suc n) columns =
      rw add-suc
      (ap (λ (l : List ℕ). l ++ tab (f (i + n)) columns) (grid_append i n columns)
      ∙ append_assoc (grid f i columns) (grid (λ k. f (i + k)) n columns) (tab (f (i + n)) columns))

  pub rows_some : (xs ys part : List ℕ) (columns i n : ℕ) → ys ≡ grid f i columns ++ drop (i * columns) xs → part ≡ grid (λ k. f (i + k)) n columns
      → take (i * columns) ys ++ (part ++ drop (n * columns) (drop (i * columns) ys)) ≡ grid f (i + n) columns ++ drop ((i + n) * columns) xs
  rows_some xs ys part columns i n e r =
      let size = length_grid i columns in
      let front : take (i * columns) ys ≡ grid f i columns = ap (take (i * columns)) e ∙ take_at (grid f i columns) _ _ size in
      let end : i * columns + n * columns ≡ (i + n) * columns = omega arith in
      let back : drop (n * columns) (drop (i * columns) ys) ≡ drop ((i + n) * columns) xs
      = ap (λ (l : List ℕ). drop (n * columns) (drop (i * columns) l)) e
      ∙ ap (drop (n * columns)) (drop_at (grid f i columns) _ _ size)
      ∙ drop-drop (n * columns) (i * columns) xs
      ∙ ap (λ (k : ℕ). drop k xs) end in
      ap₂ (λ (l r : List ℕ). l ++ r) front (ap₂ (λ (l r : List ℕ). l ++ r) r back)
      ∙ sym (append_assoc (grid f i columns) (grid (λ k. f (i + k)) n columns) (drop ((i + n) * columns) xs))
      ∙ ap (λ (l : List ℕ). l ++ drop ((i + n) * columns) xs) (sym (grid_append i n columns))

  pub rows_more : (xs ys row : List ℕ) (columns i : ℕ) → ys ≡ grid f i columns ++ drop (i * columns) xs → row ≡ tab (f i) columns
      → take (i * columns) ys ++ (row ++ drop columns (drop (i * columns) ys)) ≡ grid f (i + 1) columns ++ drop ((i + 1) * columns) xs
  unfolding grid
  rows_more xs ys row columns i e r =
      let one : columns ≡ 1 * columns = omega arith in
      ap (λ (k : ℕ). take (i * columns) ys ++ (row ++ drop k (drop (i * columns) ys))) one
      ∙ rows_some xs ys row columns i 1 e (r ∙ ap (λ (k : ℕ). tab (f k) columns) (sym (add-zero i)))

  pub rows_all : (xs ys : List ℕ) (rows columns : ℕ) → length xs ≡ rows * columns → ys ≡ grid f rows columns ++ drop (rows * columns) xs
      → ys ≡ grid f rows columns
  rows_all xs ys rows columns n e =
      e ∙ ap (λ (l : List ℕ). grid f rows columns ++ l) (drop_of_length-le xs {i = rows * columns} (omega arith)) ∙ append-nil (grid f rows columns)
