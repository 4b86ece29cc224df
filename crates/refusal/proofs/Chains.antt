-- Laws of refusal chains.
--
--   first_none               no tests: done
--   first_hit, first_miss    the first row's test holds, or does not
--   first_clear              no test holds: not the first row's, and none after it
--   row_positive             a number that a refusal has is not 0
--   numbered rows            each row has the number of a refusal, as a test
--   first_numbered           so what they tell is 0 or such a number
--   numbered_append          one such list after another
--   first_append             one list of tests after another
--   first_append_clear       no test of either holds
--   first_append_hit         the first list tells a number already
--   outcome_refused, outcome_done  an answer by its number
--   outcome_map               a function of an answer
--   told_number              the number that an outcome says on paper
--   inside_low, inside_high  what a number in its range tells
--   inside, under, over      a number is in a range, or is not
use mathlib.Core.Path.{◌≡◌, refl, sym, ap, ap₂, subst}
use mathlib.Core.Bool.{Bool, true, false, cond, ◌&&◌, ◌||◌}
use mathlib.Core.List.{List, [], ◌∷◌, ◌++◌}
use Prim.Native.Nat.{ℕ, zero, suc, ◌<◌, ◌≤◌}
use native.Mathlib.Nat.{suc-ne-zero}
use lib.Dec.{T, eqb, ltb}
use borrow.Author.Tests.{ltb-false, lt-ltb, le-ltb}
use Rattle.algebra.proofs.Tests.{and_left, and_right, both, or_left, or_right}
use Rattle.std.proofs.Math.Facts.{eqb_yes}
use Rattle.refusal.specs.Numbers.{number, refusal_of, sheet}
use Rattle.refusal.specs.Chain.{Test, first, outcome, unless_refused, done, refused, outside}

pub first_none : first [] ≡ 0
unfolding first
first_none = refl

pub first_hit : (b : Bool) (n : ℕ) (rows : List Test) → b ≡ true → first ((b, n) ∷ rows) ≡ n
unfolding first
first_hit b n rows e = ap (λ (t : Bool). cond t n (first rows)) e

pub first_miss : (b : Bool) (n : ℕ) (rows : List Test) → b ≡ false → first ((b, n) ∷ rows) ≡ first rows
unfolding first
first_miss b n rows e = ap (λ (t : Bool). cond t n (first rows)) e

pub first_clear : (b : Bool) (n : ℕ) (rows : List Test) → first ((b, suc n) ∷ rows) ≡ 0 → (b ≡ false) × (first rows ≡ 0)
unfolding first
first_clear true n rows e = absurd (suc-ne-zero n e)
first_clear false n rows e = (refl, e)

row_positive : (n : ℕ) → T (eqb (number (refusal_of n)) n) → n ≡ 0 → ⊥
unfolding refusal_of sheet
row_positive n t z = subst (λ (k : ℕ). T (eqb (number (refusal_of k)) k)) z t

unfoldable pub numbered : List Test → Bool
numbered [] = true
numbered (row ∷ rows) = eqb (number (refusal_of row.1)) row.1 && numbered rows

pub row_first : (n : ℕ) (rows : List Test) → T (eqb (number (refusal_of n)) n && numbered rows) → T (eqb (number (refusal_of n)) n)
row_first n rows = and_left (eqb (number (refusal_of n)) n) (numbered rows)

pub row_rest : (n : ℕ) (rows : List Test) → T (eqb (number (refusal_of n)) n && numbered rows) → T (numbered rows)
row_rest n rows = and_right (eqb (number (refusal_of n)) n) (numbered rows)

pub numbered_append : (xs ys : List Test) → T (numbered xs) → T (numbered ys) → T (numbered (xs ++ ys))
unfolding numbered
numbered_append [] ys t u = u
numbered_append (x ∷ xs) ys t u =
    both (eqb (number (refusal_of x.1)) x.1) (numbered (xs ++ ys)) (row_first x.1 xs t)
    (numbered_append xs ys (row_rest x.1 xs t) u)

pub first_numbered : (xs : List Test) → T (numbered xs) → (first xs ≡ 0 → ⊥) → number (refusal_of (first xs)) ≡ first xs
unfolding first numbered
first_numbered [] t ne = absurd (ne refl)
first_numbered (x ∷ xs) t ne = go x.0 x.1 t ne (first_numbered xs)
  where
    go : (b : Bool) (n : ℕ) → T (eqb (number (refusal_of n)) n && numbered xs) → (cond b n (first xs) ≡ 0 → ⊥)
        → (T (numbered xs) → (first xs ≡ 0 → ⊥) → number (refusal_of (first xs)) ≡ first xs)
        → number (refusal_of (cond b n (first xs))) ≡ cond b n (first xs)
    go true n t ne ih = eqb_yes (row_first n xs t)
    go false n t ne ih = ih (row_rest n xs t) ne

-- none of the first rows' tests holds: the later rows decide
pub first_append : (xs ys : List Test) → T (numbered xs) → first xs ≡ 0 → first (xs ++ ys) ≡ first ys
unfolding first numbered
first_append [] ys t z = refl
first_append (x ∷ xs) ys t z = go x.0 x.1 t z (first_append xs ys)
  where
    go : (b : Bool) (n : ℕ) → T (eqb (number (refusal_of n)) n && numbered xs) → cond b n (first xs) ≡ 0
        → (T (numbered xs) → first xs ≡ 0 → first (xs ++ ys) ≡ first ys) → cond b n (first (xs ++ ys)) ≡ first ys
    go true n t z ih = absurd (row_positive n (row_first n xs t) z)
    go false n t z ih = ih (row_rest n xs t) z

-- no test of two lists holds: none of either
pub first_append_clear : (xs ys : List Test) → T (numbered xs) → first (xs ++ ys) ≡ 0 → (first xs ≡ 0) × (first ys ≡ 0)
unfolding first numbered
first_append_clear [] ys t e = (refl, e)
first_append_clear (x ∷ xs) ys t e = go x.0 x.1 t e (first_append_clear xs ys)
  where
    go : (b : Bool) (n : ℕ) → T (eqb (number (refusal_of n)) n && numbered xs) → cond b n (first (xs ++ ys)) ≡ 0
        → (T (numbered xs) → first (xs ++ ys) ≡ 0 → (first xs ≡ 0) × (first ys ≡ 0)) → (cond b n (first xs) ≡ 0) × (first ys ≡ 0)
    go true n t z ih = absurd (row_positive n (row_first n xs t) z)
    go false n t z ih = ih (row_rest n xs t) z

-- one of the first rows' tests holds: the later rows are not looked at
pub first_append_hit : (xs ys : List Test) (n : ℕ) → (n ≡ 0 → ⊥) → first xs ≡ n → first (xs ++ ys) ≡ n
unfolding first
first_append_hit [] ys n ne e = absurd (ne (sym e))
first_append_hit (x ∷ xs) ys n ne e = go x.0 x.1 e (first_append_hit xs ys n ne)
  where
    go : (b : Bool) (k : ℕ) → cond b k (first xs) ≡ n → (first xs ≡ n → first (xs ++ ys) ≡ n) → cond b k (first (xs ++ ys)) ≡ n
    go true k e ih = e
    go false k e ih = ih e

module _ {A : Type 0} (value : A) (refused : ℕ → A) where
  pub outcome_done : (n : ℕ) → n ≡ 0 → outcome n value refused ≡ value
  unfolding outcome
  outcome_done n e = ap (λ (k : ℕ). outcome k value refused) e

  pub outcome_refused : (n : ℕ) → (n ≡ 0 → ⊥) → outcome n value refused ≡ refused n
  unfolding outcome
  outcome_refused zero ne = absurd (ne refl)
  outcome_refused (suc n) ne = refl

pub outcome_map : {A B : Type 0} (f : A → B) (value : A) (refused : ℕ → A) (n : ℕ) → f (outcome n value refused) ≡ outcome n (f value) (λ k. f (refused k))
unfolding outcome
outcome_map f value refused zero = refl
outcome_map f value refused (suc n) = refl

-- what a lent buffer holds after a call: what is made where no test holds, and what it was where one does
module _ {A : Type 0} (tests : List Test) (made was : A) where
  pub unless_done : first tests ≡ 0 → unless_refused tests made was ≡ made
  unfolding unless_refused
  unless_done = outcome_done made (λ n. was) (first tests)

  pub unless_refused_lem : (first tests ≡ 0 → ⊥) → unless_refused tests made was ≡ was
  unfolding unless_refused
  unless_refused_lem = outcome_refused made (λ n. was) (first tests)

pub told_number : {A : Type 0} (values : List A) (n : ℕ) → (outcome n (done values) refused).number ≡ n
unfolding outcome
told_number values zero = refl
told_number values (suc n) = refl

pub inside_low : (low high n : ℕ) → outside low high n ≡ false → low ≤ n
unfolding outside
inside_low low high n e = ltb-false n low (or_left (ltb n low) (ltb high n) e)

pub inside_high : (low high n : ℕ) → outside low high n ≡ false → n ≤ high
unfolding outside
inside_high low high n e = ltb-false high n (or_right (ltb n low) (ltb high n) e)

module _ (low high n : ℕ) where
  pub inside : low ≤ n → n ≤ high → outside low high n ≡ false
  unfolding outside
  inside l h = ap₂ ◌||◌ (le-ltb n low l) (le-ltb high n h)

  pub under : n < low → outside low high n ≡ true
  unfolding outside
  under l = ap (λ (b : Bool). b || ltb high n) (lt-ltb n low l)

  pub over : low ≤ n → high < n → outside low high n ≡ true
  unfolding outside
  over l h = ap₂ ◌||◌ (le-ltb n low l) (lt-ltb high n h)
