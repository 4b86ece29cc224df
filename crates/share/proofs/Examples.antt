-- Values computed from the definitions: an edit of a definition must change one of them.
--
--   all_points   the points of hosts 1, 2 and 3 are the list's
use mathlib.Core.Path.{◌≡◌, refl}
use mathlib.Core.List.{[], ◌∷◌}
use Prim.Native.Nat.{suc}
use Rattle.algebra.specs.Lists.{tab}
use Rattle.share.specs.Sharing.{point}

all_points : tab (λ i. point (5 ∷ 7 ∷ 9 ∷ []) (suc i)) 3 ≡ 5 ∷ 7 ∷ 9 ∷ []
unfolding tab point
all_points = refl
