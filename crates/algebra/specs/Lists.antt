-- Lists by index, and matrices as lists, row by row.
--
--   tab f n       == f 0, f 1, .., f (n - 1)
--   stack f n     == the lists f 0, f 1, .., f (n - 1), one after another
--   grid f rows columns   == f row by row
--   entry columns xs i j  == the element at row i and column j of a matrix with that many columns
--   AllBelow q xs == each element of xs is below q
--   all_below q xs == the same as a test
--   Distinct xs   == no two indices of xs have the same number
--   same xs ys    == xs and ys are equal, as a test
use Rattle.std.specs.Prelude.{◌≡◌, Bool, true, false, ◌&&◌, List, [], ◌∷◌, ◌++◌, ℕ, zero, suc, ◌+◌, ◌*◌, ◌<◌, eqb, ltb, length, get_or}

unfoldable pub tab {ℓ} : {A : Type ℓ} → (ℕ → A) → ℕ → List A
tab f zero = []
tab f (suc n) = tab f n ++ (f n ∷ [])

unfoldable pub stack : (ℕ → List ℕ) → ℕ → List ℕ
stack f zero = []
stack f (suc n) = stack f n ++ f n

unfoldable pub grid : (ℕ → ℕ → ℕ) → ℕ → ℕ → List ℕ
grid f zero columns = []
grid f (suc rows) columns = grid f rows columns ++ tab (f rows) columns

unfoldable pub entry : ℕ → List ℕ → ℕ → ℕ → ℕ
entry columns xs i j = get_or xs (i * columns + j) 0

abbrev pub AllBelow : ℕ → List ℕ → Type 0
AllBelow q xs = (i : ℕ) → i < length xs → get_or xs i 0 < q

unfoldable pub all_below : ℕ → List ℕ → Bool
all_below q [] = true
all_below q (x ∷ xs) = ltb x q && all_below q xs

abbrev pub Distinct : List ℕ → Type 0
Distinct xs = (i j : ℕ) → i < length xs → j < length xs → get_or xs i 0 ≡ get_or xs j 0 → i ≡ j

unfoldable pub same : List ℕ → List ℕ → Bool
same [] [] = true
same [] (y ∷ ys) = false
same (x ∷ xs) [] = false
same (x ∷ xs) (y ∷ ys) = eqb x y && same xs ys
