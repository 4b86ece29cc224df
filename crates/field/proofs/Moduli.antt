-- Laws of the moduli.
--
--   field_test q      what every modulus is: one of the tested primes, odd and below 2 ^ 31
--   in_moduli         a modulus has its number, and its prime stands there
--   at_modulus        what every number of `moduli` passes, the prime of a modulus passes
--   Known n q         n is a modulus number, and q is its prime
--   known_number      every modulus number is known
--   known             and so is a number that names a modulus, with the modulus's prime
--   prime_prime       each modulus is prime
--   prime_small       and below 2 ^ 31
--   none_named        a number that names no modulus is no modulus number
--   not_named         and what is no modulus number names none
--   told_named        what a modulus number names, as refusal 1 tells it
--   named_known, named_unknown  what naming returns: of a modulus's number the modulus, of any other refusal 1
--   is_named, is_unnamed        and what it tells
use mathlib.Core.Path.{◌≡◌, refl, sym, ap, ◌∙◌, subst}
use mathlib.Core.Bool.{Bool, true, false, ◌&&◌, true≢false}
use mathlib.Core.List.{[], ◌∷◌}
use Prim.Native.Nat.{ℕ, zero, suc, ◌%◌, ◌^◌, ◌<◌}
use native.Mathlib.Nat.{not-suc-le-zero}
use native.Mathlib.Omega.{arith}
use lib.Dec.{T, ltb, eqb, ltb→lt, eqb→eq}
use lib.ListN.{length}
use Rattle.algebra.specs.Modular.{Prime}
use Rattle.algebra.proofs.Primes.{each, each_at, primes, is_in, listed_prime}
use Rattle.algebra.proofs.Tests.{and_left, and_right}
use Rattle.refusal.specs.Chain.{first, outcome, answered, done, refused, outside}
use Rattle.refusal.proofs.Chains.{first_clear, inside_low, inside_high, over}
use Rattle.refusal.proofs.Answered.{answered_hit, answered_miss, answered_none, is_done, is_refused}
use Rattle.field.specs.declared.Modulus.{Modulus}
use Rattle.field.specs.declared.Modulus.TheVariants.{Q13, Q257, Q65537, Q2147483647}
use Rattle.std.specs.Prelude.{Option, Some, None, Ok, Err}
use Rattle.refusal.specs.declared.Refusal.{Refusal}
use Rattle.refusal.specs.Numbers.{refusal_of, sheet}
use Rattle.field.specs.Modulus.{moduli, modulus, no_modulus, prime, number, named, modulus_in, told}

-- ---- tests that every modulus passes

field_test : ℕ → Bool
field_test q = is_in primes q && (eqb (q % 2) 1 && ltb q (2 ^ 31))

-- computed once, over the list
field_tested : T (each field_test moduli)
unfolding each field_test is_in primes moduli
field_tested = tt

at_number : (test : ℕ → Bool) → T (each test moduli) → (n : ℕ) → no_modulus n ≡ false → T (test (modulus n))
unfolding no_modulus modulus
at_number test t zero e = absurd (not-suc-le-zero (inside_low 1 (length moduli) 0 e))
at_number test t (suc i) e = each_at test moduli t i (inside_high 1 (length moduli) (suc i) e)

-- ---- the enum and its numbers

in_moduli : (m : Modulus) → (no_modulus (number m) ≡ false) × (modulus (number m) ≡ prime m)
unfolding no_modulus modulus moduli outside
in_moduli Q13 = (refl, refl)
in_moduli Q257 = (refl, refl)
in_moduli Q65537 = (refl, refl)
in_moduli Q2147483647 = (refl, refl)

-- what n is by what it names: the modulus's number, or no modulus number
abbrev Names : ℕ → Option Modulus → Type 0
Names n (Some m) = number m ≡ n
Names n None = no_modulus n ≡ true

names : (n : ℕ) → Names n (named n)
unfolding named no_modulus moduli outside
names zero = refl
names (suc zero) = refl
names (suc (suc zero)) = refl
names (suc (suc (suc zero))) = refl
names (suc (suc (suc (suc zero)))) = refl
names (suc (suc (suc (suc (suc n))))) = over 1 (length moduli) (suc (suc (suc (suc (suc n))))) (omega arith) (omega arith)

pub at_modulus : (test : ℕ → Bool) → T (each test moduli) → (m : Modulus) → T (test (prime m))
at_modulus test t m = let e = in_moduli m in subst (λ (q : ℕ). T (test q)) e.1 (at_number test t (number m) e.0)

-- ---- what holds of a modulus

pub record Known (n q : ℕ) : Type 0 where
  pub is_number : no_modulus n ≡ false
  pub is : modulus n ≡ q
  pub is_prime : Prime q
  pub small : q < 2 ^ 31
  pub odd : q % 2 ≡ 1

pub known_number : (n : ℕ) → no_modulus n ≡ false → Known n (modulus n)
unfolding field_test
known_number n e =
    let q = modulus n in
    let odd = eqb (q % 2) 1 in
    let t = at_number field_test field_tested n e in
    let rest = and_right (is_in primes q) (odd && ltb q (2 ^ 31)) t in
    record {
      is_number = e;
      is = refl;
      is_prime = listed_prime q (and_left (is_in primes q) (odd && ltb q (2 ^ 31)) t);
      small = ltb→lt q (2 ^ 31) (and_right odd (ltb q (2 ^ 31)) rest);
      odd = eqb→eq (q % 2) 1 (and_left odd (ltb q (2 ^ 31)) rest);
    }

known_modulus : (m : Modulus) → Known (number m) (prime m)
known_modulus m = let e = in_moduli m in subst (λ (q : ℕ). Known (number m) q) e.1 (known_number (number m) e.0)

pub known : (n : ℕ) {m : Modulus} {q : ℕ} → named n ≡ Some m → q ≡ prime m → Known n q
known n {m} {q} e s = rw (s, ← subst (λ (x : Option Modulus). Names n x) e (names n)) (known_modulus m)

pub prime_prime : (m : Modulus) → Prime (prime m)
prime_prime m = (known_modulus m).is_prime

pub prime_small : (m : Modulus) → prime m < 2 ^ 31
prime_small m = (known_modulus m).small

pub none_named : (n : ℕ) → named n ≡ None → no_modulus n ≡ true
none_named n e = subst (λ (x : Option Modulus). Names n x) e (names n)

-- a modulus of that number: then it is one
is_number : (n : ℕ) (m : Modulus) → number m ≡ n → no_modulus n ≡ false
is_number n m e = subst (λ (k : ℕ). no_modulus k ≡ false) e (in_moduli m).0

pub not_named : (n : ℕ) → no_modulus n ≡ true → named n ≡ None
not_named n e = go (named n) (names n)
  where
    go : (x : Option Modulus) → Names n x → x ≡ None
    go (Some m) i = absurd (true≢false (sym e ∙ is_number n m i))
    go None u = refl

pub told_named : (n : ℕ) → told (named n) ≡ outcome (first ((no_modulus n, 1) ∷ [])) (done (n ∷ [])) refused
unfolding first outcome
told_named n = go (named n) (names n)
  where
    go : (x : Option Modulus) → Names n x → told x ≡ outcome (first ((no_modulus n, 1) ∷ [])) (done (n ∷ [])) refused
    go (Some m) i = rw (is_number n m i, i)
    go None u = rw u

-- ---- naming a modulus

pub named_known : (m : Modulus) → Ok m ≡ answered ((no_modulus (number m), 1) ∷ []) (modulus_in (named (number m)))
unfolding named
named_known m = sym (answered_miss (no_modulus (number m)) 1 [] (modulus_in (named (number m))) (in_moduli m).0 ∙ answered_none (modulus_in (named (number m))) ∙ ap Ok (go m))
  where
    go : (m : Modulus) → modulus_in (named (number m)) ≡ m
    go Q13 = refl
    go Q257 = refl
    go Q65537 = refl
    go Q2147483647 = refl

pub named_unknown : (n : ℕ) → no_modulus n ≡ true → Err Refusal.Modulus ≡ answered ((no_modulus n, 1) ∷ []) (modulus_in (named n))
unfolding refusal_of sheet
named_unknown n e = sym (answered_hit (no_modulus n) 0 [] (modulus_in (named n)) e)

module _ (n : ℕ) where
  pub is_named : (m : Modulus) → Ok m ≡ answered ((no_modulus n, 1) ∷ []) (modulus_in (named n)) → named n ≡ Some m
  unfolding first
  is_named m e =
      let tells = is_done ((no_modulus n, 1) ∷ []) (modulus_in (named n)) m e in
      go (named n) (names n) tells.0 tells.1
    where
      go : (x : Option Modulus) → Names n x → first ((no_modulus n, 1) ∷ []) ≡ 0 → m ≡ modulus_in x → x ≡ Some m
      go (Some k) i z same = ap Some (sym same)
      go None u z same = absurd (true≢false (sym u ∙ (first_clear (no_modulus n) 0 [] z).0))

  pub is_unnamed : (r : Refusal) → Err r ≡ answered ((no_modulus n, 1) ∷ []) (modulus_in (named n)) → (no_modulus n ≡ true) × (r ≡ Refusal.Modulus)
  unfolding first refusal_of sheet
  is_unnamed r e =
      let tells = is_refused ((no_modulus n, 1) ∷ []) (modulus_in (named n)) r e in
      go (no_modulus n) tells.0 tells.1
    where
      go : (b : Bool) → (first ((b, 1) ∷ []) ≡ 0 → ⊥) → r ≡ refusal_of (first ((b, 1) ∷ [])) → (b ≡ true) × (r ≡ Refusal.Modulus)
      go true ne e = (refl, e)
      go false ne e = absurd (ne refl)
