-- The moduli (01, "The job"; 02, U4).
--
--   moduli      == the primes, by modulus number from 1 on
--   modulus n   == the prime q of modulus number n, and 0 where n is no modulus number
--   no_modulus n == n is no modulus number: the test of refusal 1
--   prime m     == the prime of a modulus
--   number m    == the number of a modulus
--   named n     == the modulus of modulus number n
--   modulus_in x == the modulus of a name; a number that names none is refused, so what stands here for it does not matter
--   told x      == what a name is on paper: the modulus's number, or refusal 1
use Rattle.std.specs.Prelude.{Bool, List, [], ◌∷◌, ℕ, length, get_or, Option, Some, None}
use Rattle.refusal.specs.Chain.{Told, done, refused, outside}
use Rattle.field.specs.declared.Modulus.{Modulus}
use Rattle.field.specs.declared.Modulus.TheVariants.{Q13, Q257, Q65537, Q2147483647}

unfoldable pub moduli : List ℕ
moduli = 13 ∷ 257 ∷ 65537 ∷ 2147483647 ∷ []

unfoldable pub modulus : ℕ → ℕ
modulus n = get_or (0 ∷ moduli) n 0

unfoldable pub no_modulus : ℕ → Bool
no_modulus n = outside 1 (length moduli) n

abbrev pub prime : Modulus → ℕ
prime Q13 = 13
prime Q257 = 257
prime Q65537 = 65537
prime Q2147483647 = 2147483647

abbrev pub number : Modulus → ℕ
number Q13 = 1
number Q257 = 2
number Q65537 = 3
number Q2147483647 = 4

unfoldable pub named : ℕ → Option Modulus
named n = get_or (None ∷ Some Q13 ∷ Some Q257 ∷ Some Q65537 ∷ Some Q2147483647 ∷ []) n None

abbrev pub modulus_in : Option Modulus → Modulus
modulus_in (Some m) = m
modulus_in None = Q13

abbrev pub told : Option Modulus → Told ℕ
told (Some m) = done (number m ∷ [])
told None = refused 1
