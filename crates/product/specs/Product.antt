-- The product of two shares (01, "Exponents": an answer is A share times B share; "What is turned down", Product).
-- n is a modulus number; A's share is rows by inner, B's inner by columns.
--
--   product_entry inner columns a b i j == the sum over l of a's entry at i, l times b's at l, j
--   product_of q rows inner columns a b == the product modulo q, row by row
--   tests_by_size size n rows inner columns a b length_a length_b room
--                       == the tests of a product: 1, 2, 6, 13, 14. a and b are the shares' elements; their buffers have the lengths
--                          length_a and length_b, the output's has room, and a buffer of k elements has the length size k
--   product_tests n rows inner columns a b room == those of a product of lists of elements
--   product_after n rows inner columns a b out  == what the output then holds
use Rattle.std.specs.Prelude.{not, ◌||◌, List, [], ◌∷◌, ℕ, ◌*◌, ◌%◌, length}
use Rattle.algebra.specs.Lists.{grid, entry, all_below}
use Rattle.algebra.specs.Sums.{sum}
use Rattle.refusal.specs.Chain.{Test, unless_refused, differs}
use Rattle.refusal.specs.Limits.{sizes_outside, over_block}
use Rattle.field.specs.Modulus.{modulus, no_modulus}

unfoldable pub product_entry : ℕ → ℕ → List ℕ → List ℕ → ℕ → ℕ → ℕ
product_entry inner columns a b i j = sum inner (λ l. entry inner a i l * entry columns b l j)

unfoldable pub product_of : ℕ → ℕ → ℕ → ℕ → List ℕ → List ℕ → List ℕ
product_of q rows inner columns a b = grid (λ i j. product_entry inner columns a b i j % q) rows columns

abbrev pub tests_by_size : (ℕ → ℕ) → ℕ → ℕ → ℕ → ℕ → List ℕ → List ℕ → ℕ → ℕ → ℕ → List Test
tests_by_size size n rows inner columns a b length_a length_b room =
    (no_modulus n, 1)
    ∷ (sizes_outside rows inner columns, 2)
    ∷ (over_block rows inner columns, 6)
    ∷ (differs length_a (size (rows * inner)) || differs length_b (size (inner * columns)) || differs room (size (rows * columns)), 13)
    ∷ (not (all_below (modulus n) a) || not (all_below (modulus n) b), 14) ∷ []

unfoldable pub product_tests : ℕ → ℕ → ℕ → ℕ → List ℕ → List ℕ → ℕ → List Test
product_tests n rows inner columns a b room = tests_by_size (λ k. k) n rows inner columns a b (length a) (length b) room

unfoldable pub product_after : ℕ → ℕ → ℕ → ℕ → List ℕ → List ℕ → List ℕ → List ℕ
product_after n rows inner columns a b out =
    unless_refused (product_tests n rows inner columns a b (length out)) (product_of (modulus n) rows inner columns a b) out
