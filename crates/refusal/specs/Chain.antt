-- Refusals (01, "What is turned down"): a call's tests stand in a list, in the sheet's order, each with its number.
--
--   Test             == a test, and the number that is told where it holds
--   first tests      == the number of the first test that holds, and 0 where none does: the call is carried out
--   except n tests   == the tests but those of number n
--   outcome n v r    == v where the number n is 0, and r n otherwise
--   answered tests v == what a call with these tests returns: v where it is carried out, and otherwise the refusal whose test holds first
--   number_in r      == the number that such a call tells: 0 where it is carried out
--   unless_refused tests made was == what a lent buffer holds after a call with these tests: `made` where it is carried out, and
--                       what it was where it is refused
--   Told A           == what an outcome says on paper: its number, 0 where the call is carried out, and then its values
--   done vs, refused n == the call is carried out, with these values; it is refused with this number, and has none
--   outside a b n    == n is not in a..b
--   differs a b      == a is not b
use Rattle.std.specs.Prelude.{Bool, not, cond, ◌||◌, List, [], ◌∷◌, ℕ, zero, suc, ltb, eqb, Result, Ok, Err}
use Rattle.refusal.specs.declared.Refusal.{Refusal}
use Rattle.refusal.specs.Numbers.{number, refusal_of}

abbrev pub Test : Type 0
Test = Bool × ℕ

unfoldable pub first : List Test → ℕ
first [] = 0
first (test ∷ tests) = let rest = first tests in cond test.0 test.1 rest

unfoldable pub except : ℕ → List Test → List Test
except n [] = []
except n (test ∷ tests) = let rest = except n tests in cond (eqb test.1 n) rest (test ∷ rest)

unfoldable pub outcome : {A : Type 0} → ℕ → A → (ℕ → A) → A
outcome zero value refused = value
outcome (suc n) value refused = refused (suc n)

abbrev pub refuse : {A : Type 0} → ℕ → Result A Refusal
refuse n = Err (refusal_of n)

unfoldable pub answered : {A : Type 0} → List Test → A → Result A Refusal
answered tests value = outcome (first tests) (Ok value) refuse

abbrev pub number_in : {A : Type 0} → Result A Refusal → ℕ
number_in (Ok value) = 0
number_in (Err r) = number r

unfoldable pub unless_refused : {A : Type 0} → List Test → A → A → A
unless_refused tests made was = outcome (first tests) made (λ n. was)

-- Where a call returns an enum, a definition in the enum's crate says what each of its cases is on paper.
pub record Told (A : Type 0) : Type 0 where
  pub number : ℕ
  pub values : List A

abbrev pub done : {A : Type 0} → List A → Told A
done values = record { number = 0; values = values }

abbrev pub refused : {A : Type 0} → ℕ → Told A
refused n = record { number = n; values = [] }

unfoldable pub outside : ℕ → ℕ → ℕ → Bool
outside low high n = ltb n low || ltb high n

abbrev pub differs : ℕ → ℕ → Bool
differs a b = not (eqb a b)
