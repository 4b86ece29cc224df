-- Values computed from the definitions: an edit of a definition must change one of them.
--
--   cuts       the parameters of both examples, those of 02, U2, with one mask more for B
--   listed_a   the exponents of A's side in layout 3, as the lister prints them
--   listed_b   those of B's side
use mathlib.Core.Path.{◌≡◌, refl}
use mathlib.Core.List.{[], ◌∷◌}
use Rattle.algebra.specs.Lists.{tab, grid}
use Rattle.layout.specs.declared.Parameters.{Parameters}
use Rattle.layout.specs.Exponents.{layout3, term}
use Rattle.share_side.specs.declared.Matrix.TheVariants.{A, B}
use Rattle.share_side.specs.Sides.{cut_side, side_exponents}

abbrev cuts : Parameters
cuts = record { m = 2; p = 2; n = 2; xa = 5; xb = 6 }

listed_a : side_exponents (layout3 cuts) (cut_side A cuts 1 1 1) ≡ 0 ∷ 1 ∷ 4 ∷ 5 ∷ 8 ∷ 9 ∷ 10 ∷ 11 ∷ 12 ∷ []
unfolding tab grid layout3 term side_exponents
listed_a = refl

listed_b : side_exponents (layout3 cuts) (cut_side B cuts 1 1 1) ≡ 1 ∷ 3 ∷ 0 ∷ 2 ∷ 8 ∷ 9 ∷ 10 ∷ 11 ∷ 12 ∷ 13 ∷ []
unfolding tab grid layout3 term side_exponents
listed_b = refl
