-- Laws of the points' tests, point by point.
--
--   member_at                   a number stands among the first n
--   member_more                 it does among one more
--   points_numbered             every row has a number
--   points_except               none has a number that no row of a point has
--   pass_point                  the tests of the points up to i pass, and so do those of i
--   stop_point                  they pass up to i, and one of i tells a number
--   length_same                 the points are as many as the hosts: the test of their number does not hold
use mathlib.Core.Path.{◌≡◌, refl, sym, ap, ap₂, ◌∙◌, subst}
use mathlib.Core.Bool.{Bool, true, false, not, ◌||◌}
use mathlib.Core.Logic.{⊎_elim}
use mathlib.Core.List.{List, [], ◌∷◌, ◌++◌}
use Prim.Native.Nat.{ℕ, zero, suc, ◌+◌, ◌≤◌, ◌<◌}
use native.Mathlib.Nat.{not-suc-le-zero, le_of_suc-le-suc, eq-or-lt_of_le, suc-ne-zero}
use native.Mathlib.Numerals.{add-one}
use native.Mathlib.Omega.{arith}
use lib.Dec.{T, eqb}
use lib.ListN.{length, get_or, take}
use borrow.Author.Tests.{eq-eqb}
use Rattle.algebra.proofs.Tests.{or_true, or_false, or_assoc}
use Rattle.refusal.specs.Numbers.{refusal_of, sheet}
use Rattle.refusal.specs.Chain.{Test, first, except}
use Rattle.refusal.proofs.Chains.{first_miss, numbered, numbered_append, first_append, first_append_hit}
use Rattle.refusal.proofs.Except.{except_append}
use Rattle.plan.specs.Planning.{member, point_tests_at, all_point_tests, point_tests}

pub member_at : (xs : List ℕ) (n i x : ℕ) → i < n → i < length xs → get_or xs i 0 ≡ x → member x (take n xs) ≡ true
unfolding member
member_at [] n i x hn hl e = absurd (not-suc-le-zero hl)
member_at (y ∷ ys) zero i x hn hl e = absurd (not-suc-le-zero hn)
member_at (y ∷ ys) (suc n) zero x hn hl e = ap (λ (b : Bool). b || member x (take n ys)) (eq-eqb x y (sym e))
member_at (y ∷ ys) (suc n) (suc i) x hn hl e =
    or_true (eqb x y) (member x (take n ys)) (member_at ys n i x (le_of_suc-le-suc hn) (le_of_suc-le-suc hl) e)

pub member_more : (xs : List ℕ) (i x : ℕ) → i < length xs → member x (take (suc i) xs) ≡ (member x (take i xs) || eqb x (get_or xs i 0))
unfolding member
member_more [] i x h = absurd (not-suc-le-zero h)
member_more (y ∷ ys) zero x h = or_false (eqb x y) false refl
member_more (y ∷ ys) (suc i) x h =
    ap (λ (b : Bool). eqb x y || b) (member_more ys i x (le_of_suc-le-suc h))
    ∙ sym (or_assoc (eqb x y) (member x (take i ys)) (eqb x (get_or ys i 0)))

module _ (q : ℕ) (points : List ℕ) where
  pub points_numbered : (n : ℕ) → T (numbered (all_point_tests q points n))
  unfolding all_point_tests point_tests_at numbered refusal_of sheet
  points_numbered zero = tt
  points_numbered (suc n) = numbered_append (all_point_tests q points n) (point_tests_at q points n) (points_numbered n) tt

  pub points_except : (k : ℕ) → ((i : ℕ) → except k (point_tests_at q points i) ≡ point_tests_at q points i)
      → (n : ℕ) → except k (all_point_tests q points n) ≡ all_point_tests q points n
  unfolding all_point_tests except
  points_except k one zero = refl
  points_except k one (suc n) =
      except_append k (all_point_tests q points n) (point_tests_at q points n) ∙ ap₂ (λ (l r : List Test). l ++ r) (points_except k one n) (one n)

  next_point : (i : ℕ) → first (all_point_tests q points i) ≡ 0 → first (all_point_tests q points (suc i)) ≡ first (point_tests_at q points i)
  unfolding all_point_tests
  next_point i e = first_append (all_point_tests q points i) (point_tests_at q points i) (points_numbered i) e

  pub pass_point : (i : ℕ) → first (all_point_tests q points i) ≡ 0 → first (point_tests_at q points i) ≡ 0 → first (all_point_tests q points (i + 1)) ≡ 0
  pass_point i e f = ap (λ (k : ℕ). first (all_point_tests q points k)) (add-one i) ∙ next_point i e ∙ f

  -- a number that the points up to m tell is told by more points too
  keep : (m n r : ℕ) → m ≤ n → first (all_point_tests q points m) ≡ suc r → first (all_point_tests q points n) ≡ suc r
  unfolding all_point_tests
  keep m zero r h e = let z : m ≡ 0 = omega arith in subst (λ (k : ℕ). first (all_point_tests q points k) ≡ suc r) z e
  keep m (suc n) r h e =
      ⊎_elim (λ (s : m ≡ suc n). subst (λ (k : ℕ). first (all_point_tests q points k) ≡ suc r) s e)
      (λ (l : m < suc n). first_append_hit (all_point_tests q points n) (point_tests_at q points n) (suc r) (suc-ne-zero r) (keep m n r (le_of_suc-le-suc l) e))
      (eq-or-lt_of_le h)

  pub stop_point : (i n r : ℕ) → i < n → first (all_point_tests q points i) ≡ 0 → first (point_tests_at q points i) ≡ suc r → first (all_point_tests q points n) ≡ suc r
  stop_point i n r h e f = keep (suc i) n r h (next_point i e ∙ f)

  pub length_same : (hosts : ℕ) → length points ≡ hosts → first (point_tests q hosts points) ≡ first (all_point_tests q points (length points))
  unfolding point_tests
  length_same hosts e = first_miss _ 9 _ (ap not (eq-eqb (length points) hosts e))
