-- Tests: what a Bool tells.
--
--   by_test                   a test is true or false
--   tests_alike               two tests that imply each other
--   and_left, and_right       the parts of a conjunction that passed
--   either                    which part of a disjunction passed
--   both                      a conjunction from its parts
--   or_left, or_right         the parts of a disjunction that failed
--   or_all                    the three parts of one
--   or_true, or_false         a disjunction whose second part is known
--   or_assoc                  three parts, in either order of joining
--   neither                   a disjunction that is negated
--   not_leb                   a comparison that is negated
--   equal                     two numbers that passed the test of being equal
--   alike                     two equal numbers pass it
use mathlib.Core.Path.{◌≡◌, refl, sym, ap, ◌∙◌}
use mathlib.Core.Bool.{Bool, true, false, not, ◌&&◌, ◌||◌, true≢false}
use mathlib.Core.Logic.{◌⊎◌, inl, inr, ⊎_elim}
use Prim.Native.Nat.{ℕ}
use lib.Dec.{T, eqb, leb, ltb}
use borrow.Author.Tests.{eqb-true, eq-eqb, leb-true, leb-false, lt-ltb, le-ltb, not-false}

pub by_test : (t : Bool) → (t ≡ true) ⊎ (t ≡ false)
by_test true = inl refl
by_test false = inr refl

pub tests_alike : (a b : Bool) → (a ≡ true → b ≡ true) → (b ≡ true → a ≡ true) → a ≡ b
tests_alike true b f g = sym (f refl)
tests_alike false true f g = g refl
tests_alike false false f g = refl

pub and_left : (a b : Bool) → T (a && b) → T a
and_left true b t = tt
and_left false b t = t

pub and_right : (a b : Bool) → T (a && b) → T b
and_right true b t = t
and_right false b t = absurd t

pub either : (a b : Bool) → T (a || b) → T a ⊎ T b
either true b t = inl tt
either false b t = inr t

pub both : (a b : Bool) → T a → T b → T (a && b)
both true b s t = t
both false b s t = s

pub or_left : (a b : Bool) → (a || b) ≡ false → a ≡ false
or_left true b e = e
or_left false b e = refl

pub or_right : (a b : Bool) → (a || b) ≡ false → b ≡ false
or_right true b e = absurd (true≢false e)
or_right false b e = e

pub or_all : (a b c : Bool) → (a || b || c) ≡ false → (a ≡ false) × (b ≡ false) × (c ≡ false)
or_all a b c e =
    let two = or_left (a || b) c e in
    (or_left a b two, or_right a b two, or_right (a || b) c e)

pub or_true : (a b : Bool) → b ≡ true → (a || b) ≡ true
or_true true b e = refl
or_true false b e = e

pub or_false : (a b : Bool) → b ≡ false → (a || b) ≡ a
or_false true b e = refl
or_false false b e = e

pub or_assoc : (a b c : Bool) → (a || b || c) ≡ (a || (b || c))
or_assoc true b c = refl
or_assoc false b c = refl

pub equal : (a b : ℕ) → not (eqb a b) ≡ false → a ≡ b
equal a b e = eqb-true a b (not-false (eqb a b) e)

pub alike : (a b : ℕ) → a ≡ b → not (eqb a b) ≡ false
alike a b e = ap not (eq-eqb a b e)

pub neither : (a b : Bool) → not (a || b) ≡ (not a && not b)
neither true b = refl
neither false b = refl

pub not_leb : (a b : ℕ) → not (leb a b) ≡ ltb b a
not_leb a b =
    ⊎_elim (λ (t : leb a b ≡ true). ap not t ∙ sym (le-ltb b a (leb-true a b t))) (λ (f : leb a b ≡ false). ap not f ∙ sym (lt-ltb b a (leb-false a b f)))
    (by_test (leb a b))
