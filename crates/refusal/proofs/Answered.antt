-- Laws of what a call with tests returns.
--
--   answered_done, answered_refused  by the number that the tests tell
--   answered_hit, answered_miss      by the first test
--   is_done, is_refused              what a returned value, or a returned refusal, tells of the tests
--   refused_on, passed_on            a call's tests begin with those of a call that it makes: that one refuses, or does not
--   answered_none                    there are no tests
--   number_told                      what is told of a call's outcome is what its tests tell
use mathlib.Core.Path.{◌≡◌, refl, ap}
use mathlib.Core.Bool.{Bool, true, false}
use mathlib.Core.List.{List, [], ◌∷◌, ◌++◌}
use Prim.Native.Nat.{ℕ, zero, suc}
use Rattle.std.specs.Prelude.{Ok, Err}
use native.Mathlib.Nat.{suc-ne-zero}
use lib.Dec.{T}
use Rattle.refusal.specs.declared.Refusal.{Refusal}
use Rattle.refusal.specs.Numbers.{number, refusal_of}
use Rattle.refusal.specs.Chain.{Test, first, outcome, answered, number_in}
use Rattle.refusal.proofs.Chains.{numbered, first_numbered, first_append, first_append_hit}

module _ {A : Type 0} (tests : List Test) (value : A) where
  pub answered_done : first tests ≡ 0 → answered tests value ≡ Ok value
  unfolding answered outcome
  answered_done e = ap (λ (n : ℕ). outcome n (Ok value) (λ k. Err (refusal_of k))) e

  pub answered_refused : (n : ℕ) → first tests ≡ suc n → answered tests value ≡ Err (refusal_of (suc n))
  unfolding answered outcome
  answered_refused n e = ap (λ (n : ℕ). outcome n (Ok value) (λ k. Err (refusal_of k))) e

  pub is_done : (x : A) → Ok x ≡ answered tests value → (first tests ≡ 0) × (x ≡ value)
  unfolding answered outcome
  is_done x = go (first tests)
    where
      go : (n : ℕ) → Ok x ≡ outcome n (Ok value) (λ k. Err (refusal_of k)) → (n ≡ 0) × (x ≡ value)
      go zero e = (refl, cc)
      go (suc n) e = absurd cc

  pub is_refused : (r : Refusal) → Err r ≡ answered tests value → (first tests ≡ 0 → ⊥) × (r ≡ refusal_of (first tests))
  unfolding answered outcome
  is_refused r = go (first tests)
    where
      go : (n : ℕ) → Err r ≡ outcome n (Ok value) (λ k. Err (refusal_of k)) → (n ≡ 0 → ⊥) × (r ≡ refusal_of n)
      go zero e = absurd cc
      go (suc n) e = (suc-ne-zero n, cc)

pub answered_hit : {A : Type 0} (b : Bool) (n : ℕ) (rows : List Test) (value : A) → b ≡ true → answered ((b, suc n) ∷ rows) value ≡ Err (refusal_of (suc n))
unfolding answered outcome first
answered_hit b n rows value e = rw e

pub answered_miss : {A : Type 0} (b : Bool) (n : ℕ) (rows : List Test) (value : A) → b ≡ false → answered ((b, n) ∷ rows) value ≡ answered rows value
unfolding answered first
answered_miss b n rows value e = rw e

pub answered_none : {A : Type 0} (value : A) → answered [] value ≡ Ok value
unfolding answered outcome first
answered_none value = refl

module _ {A B : Type 0} (xs ys : List Test) (before : A) (value : B) where
  pub refused_on : (r : Refusal) → Err r ≡ answered xs before → Err r ≡ answered (xs ++ ys) value
  unfolding answered outcome
  refused_on r e =
      let told = is_refused xs before r e in
      let same : first (xs ++ ys) ≡ first xs = first_append_hit xs ys (first xs) told.0 refl in
      rw same (go (first xs) told.0 told.1)
    where
      go : (n : ℕ) → (n ≡ 0 → ⊥) → r ≡ refusal_of n → Err r ≡ outcome n (Ok value) (λ k. Err (refusal_of k))
      go zero ne e = absurd (ne refl)
      go (suc n) ne e = ap Err e

  pub passed_on : (x : A) → T (numbered xs) → Ok x ≡ answered xs before → answered (xs ++ ys) value ≡ answered ys value
  unfolding answered
  passed_on x t e = rw (first_append xs ys t (is_done xs before x e).0)

-- what is told of a call's outcome is what its tests tell
pub number_told : {A : Type 0} (tests : List Test) (value : A) → T (numbered tests) → number_in (answered tests value) ≡ first tests
unfolding answered outcome
number_told tests value t = go (first tests) (first_numbered tests t)
  where
    go : (n : ℕ) → ((n ≡ 0 → ⊥) → number (refusal_of n) ≡ n) → number_in (outcome n (Ok value) (λ k. Err (refusal_of k))) ≡ n
    go zero is = refl
    go (suc n) is = is (suc-ne-zero n)
