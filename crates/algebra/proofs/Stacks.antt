-- Laws of lists that are stacked one after another.
--
--   stack_cong                equal lists
--   length_stack, get_or_stack  a stack of lists of one length has its length and their elements
--   length_parts              the length of a stack of lists of any lengths
--   tab_more, grid_more       a tabulated list, and a grid, in two parts
--   stack_tab                 a stack of rows is a grid
--   grid_tab                  a grid of elements numbered row by row is a tabulated list
--   stack_grid                a stack of grids is a grid
use mathlib.Core.Path.{◌≡◌, refl, sym, ap, ap₂, ◌∙◌}
use mathlib.Core.Logic.{⊎_elim}
use mathlib.Core.List.{List, [], ◌∷◌, ◌++◌, append_assoc, append-nil}
use Prim.Native.Nat.{ℕ, zero, suc, ◌+◌, ◌*◌, ◌<◌}
use native.Mathlib.Nat.{not-suc-le-zero, le_of_suc-le-suc, eq-or-lt_of_le, lt-suc_self, mul-le-mul_right, add-zero, add-suc}
use native.Mathlib.Omega.{arith}
use lib.ListN.{length, get_or, length-append, get_or-append}
use lib.Seq.{get_or-append-add}
use Rattle.algebra.specs.Lists.{tab, stack, grid}
use Rattle.algebra.specs.Sums.{sum}

pub stack_cong : (f g : ℕ → List ℕ) (n : ℕ) → ((i : ℕ) → i < n → f i ≡ g i) → stack f n ≡ stack g n
unfolding stack
stack_cong f g zero h = refl
stack_cong f g (suc n) h = ap₂ (λ (xs ys : List ℕ). xs ++ ys) (stack_cong f g n (λ i l. h i (omega arith))) (h n (lt-suc_self n))

module _ (f : ℕ → List ℕ) where
  pub length_stack : (n size : ℕ) → ((i : ℕ) → i < n → length (f i) ≡ size) → length (stack f n) ≡ n * size
  unfolding stack
  length_stack zero size h = omega arith
  length_stack (suc n) size h =
      omega (arith, length-append (stack f n) (f n), length_stack n size (λ i l. h i (omega arith)), h n (lt-suc_self n))

  pub get_or_stack : (n size : ℕ) → ((i : ℕ) → i < n → length (f i) ≡ size) → (i e d : ℕ) → i < n → e < size
      → get_or (stack f n) (i * size + e) d ≡ get_or (f i) e d
  unfolding stack
  get_or_stack zero size h i e d a b = absurd (not-suc-le-zero a)
  get_or_stack (suc n) size h i e d a b =
      let long : length (stack f n) ≡ n * size = length_stack n size (λ i l. h i (omega arith)) in
      ⊎_elim
      (λ (s : i ≡ n).
      let start : i * size + e ≡ length (stack f n) + e = omega (arith, long, ap (λ (k : ℕ). k * size) s) in
      ap (λ (k : ℕ). get_or (stack f n ++ f n) k d) start ∙ get_or-append-add (stack f n) (f n) e d ∙ ap (λ (k : ℕ). get_or (f k) e d) (sym s))
      (λ (l : i < n).
      get_or-append (stack f n) (f n) d (i * size + e) (omega (arith, long, mul-le-mul_right size l))
      ∙ get_or_stack n size (λ i l. h i (omega arith)) i e d l b)
      (eq-or-lt_of_le (le_of_suc-le-suc a))

  pub length_parts : (n : ℕ) → length (stack f n) ≡ sum n (λ i. length (f i))
  unfolding stack sum
  length_parts zero = refl
  length_parts (suc n) = length-append (stack f n) (f n) ∙ ap (λ (k : ℕ). k + length (f n)) (length_parts n)

pub tab_more : (f : ℕ → ℕ) (a b : ℕ) → tab f (a + b) ≡ tab f a ++ tab (λ i. f (a + i)) b
unfolding tab
tab_more f a zero = rw add-zero (sym (append-nil (tab f a)))
tab_more f a (suc b) =
    rw add-suc
    (ap (λ (xs : List ℕ). xs ++ (f (a + b) ∷ [])) (tab_more f a b)
    ∙ append_assoc (tab f a) (tab (λ i. f (a + i)) b) (f (a + b) ∷ []))

pub grid_more : (f : ℕ → ℕ → ℕ) (a b columns : ℕ) → grid f (a + b) columns ≡ grid f a columns ++ grid (λ i. f (a + i)) b columns
unfolding grid
grid_more f a zero columns = rw add-zero (sym (append-nil (grid f a columns)))
grid_more f a (suc b) columns =
    rw add-suc
    (ap (λ (xs : List ℕ). xs ++ tab (f (a + b)) columns) (grid_more f a b columns)
    ∙ append_assoc (grid f a columns) (grid (λ i. f (a + i)) b columns) (tab (f (a + b)) columns))

pub stack_tab : (f : ℕ → ℕ → ℕ) (rows columns : ℕ) → stack (λ i. tab (f i) columns) rows ≡ grid f rows columns
unfolding stack grid
stack_tab f zero columns = refl
stack_tab f (suc rows) columns = ap (λ (xs : List ℕ). xs ++ tab (f rows) columns) (stack_tab f rows columns)

-- one row more
next : (n size : ℕ) → n * size + size ≡ suc n * size
next n size = omega arith

pub grid_tab : (f : ℕ → ℕ) (rows columns : ℕ) → grid (λ i j. f (i * columns + j)) rows columns ≡ tab f (rows * columns)
unfolding grid tab
grid_tab f zero columns = let none : 0 ≡ 0 * columns = omega arith in ap (tab f) none
grid_tab f (suc rows) columns =
    ap (λ (xs : List ℕ). xs ++ tab (λ j. f (rows * columns + j)) columns) (grid_tab f rows columns)
    ∙ sym (tab_more f (rows * columns) columns)
    ∙ ap (tab f) (next rows columns)

pub stack_grid : (f : ℕ → ℕ → ℕ) (n rows columns : ℕ)
    → stack (λ k. grid (λ i. f (k * rows + i)) rows columns) n ≡ grid f (n * rows) columns
unfolding stack grid
stack_grid f zero rows columns = let none : 0 ≡ 0 * rows = omega arith in ap (λ (k : ℕ). grid f k columns) none
stack_grid f (suc n) rows columns =
    ap (λ (xs : List ℕ). xs ++ grid (λ i. f (n * rows + i)) rows columns) (stack_grid f n rows columns)
    ∙ sym (grid_more f (n * rows) rows columns)
    ∙ ap (λ (k : ℕ). grid f k columns) (next n rows)
