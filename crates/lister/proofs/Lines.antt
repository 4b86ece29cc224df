-- Laws of the lister's lines.
--
--   lists            a text at the front of a listing's buffer
--   values_append, values_snoc, line_one   the values of two lists, one value more, a line of one value
--   row_none, grid_none, row_more, grid_more   the values of a row and of a grid, none and part by part
use mathlib.Core.Path.{◌≡◌, refl, sym, ap, ◌∙◌}
use mathlib.Core.List.{List, [], ◌∷◌, ◌++◌, append-nil, append_assoc}
use Prim.Native.Nat.{ℕ, ◌+◌, ◌≤◌}
use native.Mathlib.Numerals.{add-one}
use native.Mathlib.Omega.{arith}
use lib.ListN.{length}
use borrow.Author.Tests.{le-leb}
use Rattle.algebra.specs.Lists.{tab, grid}
use Rattle.text.specs.Ascii.{ascii}
use Rattle.text.specs.declared.Writer.{Writer}
use Rattle.text.specs.Internal.{fits, put, Writes}
use Rattle.lister.specs.Listing.{value, values, line, listing_room}
use Rattle.lister.specs.Internal.{Lists}

pub lists : {w w' : Writer} {text : List ℕ} → w.at ≡ 0 → listing_room ≤ length w.out.now → Writes w text w'
    → Lists w.out.now text w'.out.now w'.at
unfolding put fits
lists {w} {w'} {text} front large written = record {
  within = omega (arith, written.within (omega arith));
  is = λ h.
      let fit : 0 + length text ≤ length w.out.now = omega arith in
      let none : 0 + length text ≡ length text = omega arith in
      written.is (omega arith) ∙ rw front (rw (le-leb (0 + length text) (length w.out.now) fit, none));
  long = λ h. omega (arith, written.behind (omega arith));
}

pub values_append : (xs ys : List ℕ) → values (xs ++ ys) ≡ values xs ++ values ys
unfolding values
values_append [] ys = refl
values_append (x ∷ xs) ys = ap (λ (l : List ℕ). value x ++ l) (values_append xs ys) ∙ sym (append_assoc (value x) (values xs) (values ys))

pub values_snoc : (xs : List ℕ) (n : ℕ) → values (xs ++ (n ∷ [])) ≡ values xs ++ value n
unfolding values
values_snoc xs n = values_append xs (n ∷ []) ∙ ap (λ (l : List ℕ). values xs ++ l) (append-nil (value n))

pub line_one : (label : List ℕ) (n : ℕ) → line label (n ∷ []) ≡ label ++ (value n ++ ascii "\n")
unfolding line values
line_one label n = ap (λ (l : List ℕ). label ++ (l ++ ascii "\n")) (append-nil (value n))

pub row_none : (f : ℕ → ℕ) → values (tab f 0) ≡ []
unfolding tab values
row_none f = refl

pub grid_none : (f : ℕ → ℕ → ℕ) (columns : ℕ) → values (grid f 0 columns) ≡ []
unfolding grid values
grid_none f columns = refl

pub row_more : (f : ℕ → ℕ) (j : ℕ) → values (tab f (j + 1)) ≡ values (tab f j) ++ value (f j)
unfolding tab
row_more f j = rw add-one (values_snoc (tab f j) (f j))

pub grid_more : (f : ℕ → ℕ → ℕ) (columns i : ℕ) → values (grid f (i + 1) columns) ≡ values (grid f i columns) ++ values (tab (f i) columns)
unfolding grid
grid_more f columns i = rw add-one (values_append (grid f i columns) (tab (f i) columns))
