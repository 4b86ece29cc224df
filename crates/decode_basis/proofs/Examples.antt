-- Values computed from the definitions: an edit of a definition must change one of them.
--
--   divided   3X² + 2X + 1 divided by (X - 2) is 3X + 8, modulo 13
use mathlib.Core.Path.{◌≡◌, refl}
use mathlib.Core.List.{[], ◌∷◌}
use Rattle.algebra.specs.Lists.{tab}
use Rattle.algebra.specs.Polynomials.{ev}
use Rattle.decode_basis.specs.Internal.{quotient}

divided : quotient 13 2 (1 ∷ 2 ∷ 3 ∷ []) 2 ≡ 8 ∷ 3 ∷ []
unfolding tab ev quotient
divided = refl
