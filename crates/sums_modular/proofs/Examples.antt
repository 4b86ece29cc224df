-- Values computed from the definitions: an edit of a definition must change one of them.
--
--   terms    two products of 2 ^ 62 as one term: of 65537, of 2 ^ 26 and of 2147483647
use mathlib.Core.Path.{◌≡◌, refl}
use mathlib.Core.List.{[], ◌∷◌, map}
use Prim.Native.Nat.{◌^◌}
use Rattle.sums_folded.specs.Internal.{fold, folded}
use Rattle.sums_modular.specs.Internal.{large, pair_term}

terms : map (λ q. pair_term q (2 ^ 62) (2 ^ 62)) (65537 ∷ 2 ^ 26 ∷ 2147483647 ∷ []) ≡ 9223372036854775808 ∷ 4294967296 ∷ 4294967296 ∷ []
unfolding fold folded large pair_term
terms = refl
