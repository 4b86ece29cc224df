-- What signed reading and its way back return.
--
--   told_answered                     what is told of a call with tests
--   signed_told_lem, element_told_lem         an outcome on paper: the first number that fits, or else the value
--   signed_number, element_number     so its number is the first that fits
--   signed_unknown, element_unknown   the number is no modulus number
--   signed_above, signed_value        v is not below q, or it is
--   element_outside, element_value    the value is out of range, or in range
--   there_and_back                    an element's reading is taken back to it
--   back_and_there                    a value in range is taken back to an element that reads as it
--   signed_reading                    the statement of specs/Readings.antt
use mathlib.Core.Path.{◌≡◌, refl, ap, ◌∙◌}
use mathlib.Core.Bool.{true, false, not}
use mathlib.Core.List.{List, [], ◌∷◌}
use Prim.Native.Nat.{ℕ, zero, suc, ◌<◌, ◌≤◌}
use native.Mathlib.Nat.{suc-ne-zero}
use native.Mathlib.Omega.{arith}
use lib.Dec.{T, ltb}
use lib.IntN.{ℤ}
use borrow.Author.Tests.{lt-ltb, le-ltb}
use Rattle.std.specs.Prelude.{Result, Ok, Err}
use Rattle.refusal.specs.declared.Refusal.{Refusal}
use Rattle.refusal.specs.Numbers.{number as refusal_number, refusal_of, sheet}
use Rattle.refusal.specs.Chain.{Test, first, outcome, answered, Told, done, refused}
use Rattle.refusal.proofs.Chains.{numbered, first_numbered, told_number}
use Rattle.refusal.proofs.Answered.{answered_hit, answered_miss, answered_none}
use Rattle.field.specs.Modulus.{modulus, no_modulus}
use Rattle.field_signed.specs.Signed.{signed, in_range, element, signed_tests, element_tests, signed_outcome, element_outcome, signed_told, element_told}
use Rattle.field_signed.specs.Readings.{ThereAndBack, BackAndThere, SignedReading}
use Rattle.field.proofs.Moduli.{Known, known_number}
use Rattle.field_signed.proofs.Readings.{element_below, element_signed, signed_element, signed_in_range}

-- what is told of a call with tests, by what is told of its cases
told_answered : {A B : Type 0} (told : Result A Refusal → Told B) (value : A) (tests : List Test) → T (numbered tests)
    → ((r : Refusal) → told (Err r) ≡ refused (refusal_number r)) → told (answered tests value) ≡ outcome (first tests) (told (Ok value)) refused
unfolding answered outcome
told_answered told value tests t is = go (first tests) (first_numbered tests t)
  where
    go : (n : ℕ) → ((n ≡ 0 → ⊥) → refusal_number (refusal_of n) ≡ n)
        → told (outcome n (Ok value) (λ k. Err (refusal_of k))) ≡ outcome n (told (Ok value)) refused
    go zero same = refl
    go (suc n) same = is (refusal_of (suc n)) ∙ ap refused (same (suc-ne-zero n))

pub signed_told_lem : (number v : ℕ) → signed_told (signed_outcome number v) ≡ outcome (first (signed_tests number v)) (done (signed (modulus number) v ∷ [])) refused
unfolding signed_told signed_outcome signed_tests numbered refusal_of sheet
signed_told_lem number v = told_answered signed_told (signed (modulus number) v) (signed_tests number v) tt (λ r. refl)

pub element_told_lem : (number : ℕ) (z : ℤ) → element_told (element_outcome number z) ≡ outcome (first (element_tests number z)) (done (element (modulus number) z ∷ [])) refused
unfolding element_told element_outcome element_tests numbered refusal_of sheet
element_told_lem number z = told_answered element_told (element (modulus number) z) (element_tests number z) tt (λ r. refl)

pub signed_number : (number v : ℕ) → (signed_told (signed_outcome number v)).number ≡ first (signed_tests number v)
signed_number number v = ap (λ (t : Told ℤ). t.number) (signed_told_lem number v) ∙ told_number (signed (modulus number) v ∷ []) (first (signed_tests number v))

pub element_number : (number : ℕ) (z : ℤ) → (element_told (element_outcome number z)).number ≡ first (element_tests number z)
element_number number z = ap (λ (t : Told ℕ). t.number) (element_told_lem number z) ∙ told_number (element (modulus number) z ∷ []) (first (element_tests number z))

pub signed_unknown : (number v : ℕ) → no_modulus number ≡ true → signed_outcome number v ≡ Err Refusal.Modulus
unfolding signed_outcome signed_tests refusal_of sheet
signed_unknown number v = answered_hit (no_modulus number) 0 _ _

pub element_unknown : (number : ℕ) (z : ℤ) → no_modulus number ≡ true → element_outcome number z ≡ Err Refusal.Modulus
unfolding element_outcome element_tests refusal_of sheet
element_unknown number z = answered_hit (no_modulus number) 0 _ _

module _ {number q : ℕ} (k : Known number q) where
  pub signed_above : (v : ℕ) → q ≤ v → signed_outcome number v ≡ Err Refusal.Element
  unfolding signed_outcome signed_tests refusal_of sheet
  signed_above v l = answered_miss _ 1 _ _ k.is_number ∙ answered_hit (not (ltb v (modulus number))) 13 [] _ (rw k.is (ap not (le-ltb v q l)))

  pub signed_value : (v : ℕ) → v < q → signed_outcome number v ≡ Ok (signed q v)
  unfolding signed_outcome signed_tests
  signed_value v l = answered_miss _ 1 _ _ k.is_number ∙ answered_miss (not (ltb v (modulus number))) 14 [] _ (rw k.is (ap not (lt-ltb v q l))) ∙ answered_none _ ∙ ap (λ (p : ℕ). Ok (signed p v)) k.is

  pub element_outside : (z : ℤ) → in_range q z ≡ false → element_outcome number z ≡ Err Refusal.Signed
  unfolding element_outcome element_tests refusal_of sheet
  element_outside z e = answered_miss _ 1 _ _ k.is_number ∙ answered_hit (not (in_range (modulus number) z)) 24 [] _ (rw k.is (ap not e))

  pub element_value : (z : ℤ) → in_range q z ≡ true → element_outcome number z ≡ Ok (element q z)
  unfolding element_outcome element_tests
  element_value z e = answered_miss _ 1 _ _ k.is_number ∙ answered_miss (not (in_range (modulus number) z)) 25 [] _ (rw k.is (ap not e)) ∙ answered_none _ ∙ ap (λ (p : ℕ). Ok (element p z)) k.is

module _ (n : ℕ) (e : no_modulus n ≡ false) where
  k : Known n (modulus n)
  k = known_number n e

  there_and_back : (v : ℕ) → v < modulus n → ThereAndBack n v
  unfolding signed_told element_told
  there_and_back v l =
      let q = modulus n in
      let r = signed_in_range q v k.odd l in
      record {
        reads = ap signed_told (signed_value k v l);
        within_range = r;
        back = ap element_told (element_value k (signed q v) r ∙ ap Ok (element_signed q v l));
      }

  back_and_there : (z : ℤ) → in_range (modulus n) z ≡ true → BackAndThere n z
  unfolding signed_told element_told
  back_and_there z r =
      let q = modulus n in
      let l = element_below q z (omega (arith, k.is_prime.above_one)) r in
      record {
        back = ap element_told (element_value k z r);
        below = l;
        reads = ap signed_told (signed_value k (element q z) l ∙ ap Ok (signed_element q z r));
      }

pub signed_reading : SignedReading
unfolding signed_told element_told
signed_reading = record {
  there_and_back = λ n v e l. there_and_back n e v l;
  back_and_there = λ n z e r. back_and_there n e z r;
  unknown = λ n v e. ap signed_told (signed_unknown n v e);
  above = λ n v e l. ap signed_told (signed_above (known_number n e) v l);
  unknown_back = λ n z e. ap element_told (element_unknown n z e);
  outside = λ n z e r. ap element_told (element_outside (known_number n e) z r);
  number = signed_number;
  number_back = element_number;
}
