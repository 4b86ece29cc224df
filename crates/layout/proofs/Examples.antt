-- Values computed from the definitions: an edit of a definition must change one of them.
--
--   cuts          the parameters of most examples, each with its own number
--   equal         parameters with equal group sizes
--   first_b       layout 1's exponents of B's blocks, row by row
--   second_b, second_c   layout 2's, and its places of C
--   third_b, third_c, third_masks   layout 3's, and the first exponents of its masks, of A and of B
--   thresholds    K by each layout
--   choices       the number of the layout that is used: of the first two the better, of three at a tie the first or the second,
--                 and the third
--   table_iv      K of the layout that is used, for the rows of document 004, table IV, that are inside the sheet's limits
use Rattle.std.proofs.Common.{◌≡◌, ℕ, List, [], ◌∷◌, ◌++◌, map, refl}
use Rattle.algebra.specs.Lists.{tab, grid}
use Rattle.layout.specs.declared.Parameters.{Parameters}
use Rattle.layout.specs.declared.Layout.{Layout}
use Rattle.layout.specs.declared.Layout.TheVariants.{First, Second, Third}
use Rattle.layout.specs.Exponents.{layout1, layout2, layout3, stride_d, stride_e, exponents, number, better, choice}

abbrev cuts : Parameters
cuts = record { m = 3; p = 2; n = 4; xa = 5; xb = 6 }

abbrev equal : ℕ → ℕ → ℕ → ℕ → Parameters
equal p m n x = record { m = m; p = p; n = n; xa = x; xb = x }

first_b : grid (layout1 cuts).block_b 2 4 ≡ 1 ∷ 3 ∷ 5 ∷ 7 ∷ 0 ∷ 2 ∷ 4 ∷ 6 ∷ []
unfolding tab grid layout1 stride_d
first_b = refl

second_b : grid (layout2 cuts).block_b 2 4 ≡ 1 ∷ 12 ∷ 23 ∷ 34 ∷ 0 ∷ 11 ∷ 22 ∷ 33 ∷ []
unfolding tab grid layout2 stride_e
second_b = refl

second_c : grid (layout2 cuts).place 3 4 ≡ 1 ∷ 12 ∷ 23 ∷ 34 ∷ 3 ∷ 14 ∷ 25 ∷ 36 ∷ 5 ∷ 16 ∷ 27 ∷ 38 ∷ []
unfolding tab grid layout1 layout2 stride_d stride_e
second_c = refl

third_b : grid (layout3 cuts).block_b 2 4 ≡ 1 ∷ 3 ∷ 5 ∷ 7 ∷ 0 ∷ 2 ∷ 4 ∷ 6 ∷ []
unfolding tab grid layout3
third_b = refl

third_c : grid (layout3 cuts).place 3 4 ≡ 1 ∷ 3 ∷ 5 ∷ 7 ∷ 9 ∷ 11 ∷ 13 ∷ 15 ∷ 17 ∷ 19 ∷ 21 ∷ 23 ∷ []
unfolding tab grid layout3 stride_d
third_c = refl

third_masks : tab (layout3 cuts).mask_a 2 ++ tab (layout3 cuts).mask_b 2 ≡ 24 ∷ 25 ∷ 24 ∷ 25 ∷ []
unfolding tab layout3
third_masks = refl

thresholds : map (λ (l : Layout). (exponents l cuts).needed) (First ∷ Second ∷ Third ∷ []) ≡ 54 ∷ 55 ∷ 58 ∷ []
unfolding exponents layout1 layout2 layout3 stride_d stride_e
thresholds = refl

choices : map (λ (g : Parameters). number (choice g)) (cuts ∷ equal 1 3 2 2 ∷ equal 2 2 2 4 ∷ equal 1 3 2 3 ∷ equal 2 2 2 5 ∷ [])
    ≡ 1 ∷ 2 ∷ 1 ∷ 2 ∷ 3 ∷ []
unfolding choice better exponents layout1 layout2 layout3 stride_d stride_e
choices = refl

-- p, m, n and the size of both groups
abbrev rows : List Parameters
rows =
    equal 2 2 2 2 ∷ equal 2 2 2 5 ∷ equal 2 2 3 2 ∷ equal 2 2 3 5 ∷ equal 2 3 2 2 ∷ equal 2 3 2 7
    ∷ equal 3 2 2 7 ∷ equal 3 4 4 2 ∷ equal 4 3 3 2 ∷ equal 4 5 5 2 ∷ equal 5 4 4 2 ∷ equal 5 5 5 2 ∷ []

table_iv : map (λ (g : Parameters). (exponents (choice g) g).needed) rows
    ≡ 17 ∷ 25 ∷ 23 ∷ 32 ∷ 23 ∷ 37 ∷ 37 ∷ 69 ∷ 55 ∷ 131 ∷ 109 ∷ 161 ∷ []
unfolding choice better exponents layout1 layout2 layout3 stride_d stride_e
table_iv = refl
