-- Sets of whole numbers, each as a test.
--
--   members g n == the numbers below n that are in g, rising
--   size g n    == how many of them there are
use Rattle.std.specs.Prelude.{Bool, cond, List, [], ◌∷◌, ◌++◌, ℕ, zero, suc, length}

unfoldable pub members : (ℕ → Bool) → ℕ → List ℕ
members g zero = []
members g (suc n) = let below = members g n in cond (g n) (below ++ (n ∷ [])) below

unfoldable pub size : (ℕ → Bool) → ℕ → ℕ
size g n = length (members g n)
