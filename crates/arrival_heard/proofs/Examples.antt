-- Values computed from the definitions: an edit of a definition must change one of them.
--
--   two_lowest   of the hosts 1, 3 and 4, the indices of the two lowest-numbered
use mathlib.Core.Path.{◌≡◌, refl}
use mathlib.Core.List.{[], ◌∷◌}
use Rattle.algebra.specs.Sets.{members}
use Rattle.arrival_heard.specs.Heard.{is_heard, lowest}

two_lowest : lowest 2 13 5 ≡ 0 ∷ 2 ∷ []
unfolding members is_heard lowest
two_lowest = refl
