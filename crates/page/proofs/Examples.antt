-- Values computed from the definitions: an edit of a definition must change one of them.
--
--   table, text    a table of two rows and seven columns, one element of ten digits; and its page, line by line
--   shown, back    the table gives that page, and the page reads back to the table
--   numbers        lengths, and single bytes and numbers of the page
--   refusals       the refusals in their order: a call with all faults, and with one fewer each time
--   ends           both ends of each limit, and lengths one off
--   rooms          the length that a caller is told
--   filled, kept   what the output then holds: the page, and what it held
use mathlib.Core.Path.{◌≡◌, refl}
use mathlib.Core.List.{List, [], ◌∷◌, ◌++◌}
use Prim.Native.Nat.{ℕ, ◌+◌}
use lib.ListN.{length, get_or, drop}
use Rattle.algebra.specs.Lists.{tab, stack, grid, entry, all_below}
use Rattle.refusal.specs.Chain.{first, outside, outcome, unless_refused}
use Rattle.field.specs.Modulus.{moduli, modulus, no_modulus}
use Rattle.text.specs.Ascii.{ascii}
use Rattle.text.specs.Decimal.{digit, spell, decimal}
use Rattle.text.specs.Numerals.{value}
use Rattle.page.specs.Page.{spaces, cell, line, panels, across, heading, row, panel, gap, page, page_length, room_for, page_tests, page_after}
use Rattle.page.specs.Reading.{past_spaces, cell_at, line_at, read_back}

table : List ℕ
table = 1 ∷ 20 ∷ 300 ∷ 0 ∷ 5 ∷ 6 ∷ 7 ∷ 2147483646 ∷ 9 ∷ 10 ∷ 11 ∷ 12 ∷ 13 ∷ 14 ∷ []

text : List ℕ
text =
    ascii "               1          2          3          4          5          6\n"
    ++ (ascii "    1          1         20        300          0          5          6\n"
    ++ (ascii "    2 2147483646          9         10         11         12         13\n"
    ++ (ascii "\n"
    ++ (ascii "               7\n"
    ++ (ascii "    1          7\n"
    ++ ascii "    2         14\n")))))

shown : page 2 7 table ≡ text
unfolding spaces cell line panels across heading row panel gap page table text tab stack entry digit spell decimal
shown = refl

-- the length by the formula and of the page, its first byte, the column number of panel 1, the row number and first element of row 1
numbers : page_length 2 7
    ∷ length (page 2 7 table)
    ∷ get_or (page 2 7 table) 0 0
    ∷ cell_at (page 2 7 table) (line_at 2 7 1 0 + 5) 11
    ∷ cell_at (page 2 7 table) (line_at 2 7 0 2) 5
    ∷ cell_at (page 2 7 table) (line_at 2 7 0 2 + 5) 11
    ∷ []
    ≡ 268 ∷ 268 ∷ 32 ∷ 7 ∷ 2 ∷ 2147483646 ∷ []
unfolding spaces cell line panels across heading row panel gap page page_length table tab stack entry digit spell decimal value past_spaces cell_at line_at
numbers = refl

back : read_back 2 7 text ≡ table
unfolding text table value digit past_spaces cell_at line_at read_back across grid tab
back = refl

-- the table with its first element too large
over : List ℕ
over = 2147483647 ∷ drop 1 table

refusals : first (page_tests 5 0 7 (drop 1 over) 0)
    ∷ first (page_tests 4 0 7 (drop 1 over) 0)
    ∷ first (page_tests 4 2 7 (drop 1 over) 0)
    ∷ first (page_tests 4 2 7 over 0)
    ∷ first (page_tests 4 2 7 over 268)
    ∷ first (page_tests 4 2 7 table 268)
    ∷ []
    ≡ 1 ∷ 2 ∷ 13 ∷ 28 ∷ 14 ∷ 0 ∷ []
unfolding first page_tests no_modulus moduli modulus outside page_length panels all_below over table
refusals = refl

ends : first (page_tests 0 2 7 table 268)
    ∷ first (page_tests 4 16385 7 [] 0)
    ∷ first (page_tests 4 2 0 [] 0)
    ∷ first (page_tests 4 2 16385 [] 0)
    ∷ first (page_tests 4 16384 1 [] 0)
    ∷ first (page_tests 4 1 16384 [] 0)
    ∷ first (page_tests 4 2 7 (0 ∷ table) 268)
    ∷ first (page_tests 4 2 7 table 267)
    ∷ first (page_tests 4 2 7 table 269)
    ∷ []
    ≡ 1 ∷ 2 ∷ 2 ∷ 2 ∷ 13 ∷ 13 ∷ 13 ∷ 28 ∷ 28 ∷ []
unfolding first page_tests no_modulus moduli modulus outside page_length panels all_below table
ends = refl

rooms : room_for 2 7 ∷ room_for 0 7 ∷ room_for 2 16385 ∷ room_for 16384 16384 ∷ [] ≡ 268 ∷ 0 ∷ 0 ∷ 3221457580 ∷ []
unfolding room_for outside page_length panels
rooms = refl

-- the least page: carried out, and refused with 14
filled : page_after 1 1 1 (12 ∷ []) (tab (λ i. 7) 34) ≡ ascii "               1\n    1         12\n"
unfolding page_after unless_refused outcome first page_tests no_modulus moduli modulus outside page_length panels all_below page gap panel heading row line cell spaces across tab stack entry digit spell decimal
filled = refl

kept : page_after 1 1 1 (13 ∷ []) (tab (λ i. 7) 34) ≡ tab (λ i. 7) 34
unfolding page_after unless_refused outcome first page_tests no_modulus moduli modulus outside page_length panels all_below tab
kept = refl
