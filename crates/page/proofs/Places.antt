-- Where a list stands in another.
--
--   At xs at ys           ys stands in xs from place `at` on
--   at_front, at_back     the first of two lists, and the second
--   at_then               a list in one that stands in a third
--   at_place              the same place by another name
--   at_stack              a list of a stack stands where those before it end
--   at_take               what is taken from there
use mathlib.Core.Path.{◌≡◌, refl, sym, ap, ap₂, ◌∙◌, subst}
use mathlib.Core.Logic.{⊎_elim}
use mathlib.Core.List.{List, [], ◌++◌, append_assoc, append-nil}
use Prim.Native.Nat.{ℕ, zero, suc, ◌+◌, ◌<◌}
use native.Mathlib.Nat.{not-suc-le-zero, le_of_suc-le-suc, eq-or-lt_of_le}
use native.Mathlib.Omega.{arith}
use lib.ListN.{length, take, drop, length-append}
use lib.Seq.{drop_at, take_at}
use Rattle.algebra.specs.Lists.{stack}

pub record At (xs : List ℕ) (at : ℕ) (ys : List ℕ) : Type 0 where
  pub front : List ℕ
  pub rest : List ℕ
  pub is : xs ≡ front ++ (ys ++ rest)
  pub place : length front ≡ at

pub at_front : (xs ys : List ℕ) → At (xs ++ ys) 0 xs
at_front xs ys = record { front = []; rest = ys; is = refl; place = refl }

pub at_back : (xs ys : List ℕ) → At (xs ++ ys) (length xs) ys
at_back xs ys = record { front = xs; rest = []; is = ap (λ (l : List ℕ). xs ++ l) (sym (append-nil ys)); place = refl }

pub at_then : {xs ys zs : List ℕ} {a b : ℕ} → At xs a ys → At ys b zs → At xs (a + b) zs
at_then {xs} {ys} {zs} u v = record {
  front = u.front ++ v.front;
  rest = v.rest ++ u.rest;
  is =
      u.is
      ∙ ap (λ (l : List ℕ). u.front ++ (l ++ u.rest)) v.is
      ∙ ap (λ (l : List ℕ). u.front ++ l)
      (append_assoc v.front (zs ++ v.rest) u.rest ∙ ap (λ (l : List ℕ). v.front ++ l) (append_assoc zs v.rest u.rest))
      ∙ sym (append_assoc u.front v.front (zs ++ (v.rest ++ u.rest)));
  place = length-append u.front v.front ∙ ap₂ ◌+◌ u.place v.place;
}

pub at_place : {xs ys : List ℕ} {a b : ℕ} → a ≡ b → At xs a ys → At xs b ys
at_place {xs} {ys} e u = subst (λ (k : ℕ). At xs k ys) e u

pub at_stack : (f : ℕ → List ℕ) (n i : ℕ) → i < n → At (stack f n) (length (stack f i)) (f i)
unfolding stack
at_stack f zero i l = absurd (not-suc-le-zero l)
at_stack f (suc n) i l =
    ⊎_elim
    (λ (e : i ≡ n). subst (λ (k : ℕ). At (stack f n ++ f n) (length (stack f k)) (f k)) (sym e) (at_back (stack f n) (f n)))
    (λ (h : i < n). at_place (omega arith) (at_then (at_front (stack f n) (f n)) (at_stack f n i h)))
    (eq-or-lt_of_le (le_of_suc-le-suc l))

pub at_take : {xs ys : List ℕ} {a : ℕ} (width : ℕ) → At xs a ys → length ys ≡ width → take width (drop a xs) ≡ ys
at_take {xs} {ys} {a} width u long =
    ap (λ (l : List ℕ). take width (drop a l)) u.is
    ∙ ap (take width) (drop_at u.front (ys ++ u.rest) a u.place)
    ∙ take_at ys u.rest width long
