-- Laws of refusal chains with the tests of one number left out.
--
--   except_append     one list of tests after another
--   except_untold     without the tests of a number, that number is not told
use mathlib.Core.Path.{◌≡◌, refl, sym, ap}
use mathlib.Core.Bool.{Bool, true, false, cond}
use mathlib.Core.List.{List, [], ◌∷◌, ◌++◌}
use Prim.Native.Nat.{ℕ}
use lib.Dec.{eqb}
use borrow.Author.Tests.{eqb-false}
use Rattle.refusal.specs.Chain.{Test, first, except}

module _ (n : ℕ) where
  pub except_append : (xs ys : List Test) → except n (xs ++ ys) ≡ except n xs ++ except n ys
  unfolding except
  except_append [] ys = refl
  except_append (x ∷ xs) ys = go (eqb x.1 n) (except_append xs ys)
    where
      go : (b : Bool) → except n (xs ++ ys) ≡ except n xs ++ except n ys
          → cond b (except n (xs ++ ys)) (x ∷ except n (xs ++ ys)) ≡ cond b (except n xs) (x ∷ except n xs) ++ except n ys
      go true ih = ih
      go false ih = ap (λ (rows : List Test). x ∷ rows) ih

  pub except_untold : (n ≡ 0 → ⊥) → (xs : List Test) → first (except n xs) ≡ n → ⊥
  unfolding first except
  except_untold ne [] e = ne (sym e)
  except_untold ne (x ∷ xs) e = go (eqb x.1 n) (eqb-false x.1 n) x.0 (except_untold ne xs) e
    where
      go : (b : Bool) → (b ≡ false → x.1 ≡ n → ⊥) → (t : Bool) → (first (except n xs) ≡ n → ⊥)
          → first (cond b (except n xs) ((t, x.1) ∷ except n xs)) ≡ n → ⊥
      go true other t rest e = rest e
      go false other true rest e = other refl e
      go false other false rest e = rest e
