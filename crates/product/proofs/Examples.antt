-- Values computed from the definitions: an edit of a definition must change one of them.
--
--   multiplied   a product of 1 by 3 and 3 by 2, modulo 13
use mathlib.Core.Path.{◌≡◌, refl}
use mathlib.Core.List.{[], ◌∷◌}
use Rattle.algebra.specs.Lists.{tab, grid, entry}
use Rattle.algebra.specs.Sums.{sum}
use Rattle.product.specs.Product.{product_entry, product_of}

multiplied : product_of 13 1 3 2 (1 ∷ 2 ∷ 3 ∷ []) (4 ∷ 5 ∷ 6 ∷ 7 ∷ 8 ∷ 9 ∷ []) ≡ 1 ∷ 7 ∷ []
unfolding tab grid entry sum product_entry product_of
multiplied = refl
