-- Values computed from the definitions: an edit of a definition must change one of them.
--
--   by_number    the primes of the modulus numbers 0 to 5
--   unknown      which of these numbers are no modulus numbers: 1 for yes
use mathlib.Core.Path.{◌≡◌, refl}
use mathlib.Core.Bool.{cond}
use mathlib.Core.List.{[], ◌∷◌, map}
use Prim.Native.Nat.{ℕ}
use Rattle.refusal.specs.Chain.{outside}
use Rattle.field.specs.Modulus.{moduli, modulus, no_modulus}

by_number : map modulus (0 ∷ 1 ∷ 2 ∷ 3 ∷ 4 ∷ 5 ∷ []) ≡ 0 ∷ 13 ∷ 257 ∷ 65537 ∷ 2147483647 ∷ 0 ∷ []
unfolding moduli modulus
by_number = refl

unknown : map {B = ℕ} (λ n. cond (no_modulus n) 1 0) (0 ∷ 1 ∷ 2 ∷ 3 ∷ 4 ∷ 5 ∷ []) ≡ 1 ∷ 0 ∷ 0 ∷ 0 ∷ 0 ∷ 1 ∷ []
unfolding moduli no_modulus outside
unknown = refl
