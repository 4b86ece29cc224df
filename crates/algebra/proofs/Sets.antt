-- Laws of sets of whole numbers.
--
--   members_in         each member is in the set
--   members_has        each number below n that is in the set is a member
--   members_below      each member is below n
--   members_distinct   no member stands there twice
--   members_cong       equal sets have the same members
use mathlib.Core.Path.{◌≡◌, refl, sym, ap, ap₂, ◌∙◌, subst}
use mathlib.Core.Bool.{Bool, true, false, cond, true≢false}
use mathlib.Core.Logic.{◌⊎◌, ⊎_elim}
use mathlib.Core.List.{List, [], ◌∷◌, ◌++◌}
use Prim.Native.Nat.{ℕ, zero, suc, ◌+◌, ◌<◌, ◌≤◌}
use native.Mathlib.Nat.{not-suc-le-zero, le_of_suc-le-suc, eq-or-lt_of_le, lt-suc_self, lt_irrefl}
use native.Mathlib.Omega.{arith}
use lib.ListN.{length, get_or, length-append, get_or-append}
use lib.Seq.{get_or-append-add}
use Rattle.algebra.specs.Lists.{AllBelow, Distinct}
use Rattle.algebra.specs.Sets.{members, size}
use Rattle.algebra.proofs.Orders.{le_or_lt}
use Rattle.algebra.proofs.Tests.{by_test}

-- one more member at the end: its length, its old members and the new one
module _ (xs : List ℕ) (n : ℕ) where
  length_last : length (xs ++ (n ∷ [])) ≡ suc (length xs)
  length_last = omega (arith, length-append xs (n ∷ []))

  get_or_old : (i : ℕ) → i < length xs → get_or (xs ++ (n ∷ [])) i 0 ≡ get_or xs i 0
  get_or_old i l = get_or-append xs (n ∷ []) 0 i l

  get_or_new : get_or (xs ++ (n ∷ [])) (length xs) 0 ≡ n
  get_or_new = ap (λ (k : ℕ). get_or (xs ++ (n ∷ [])) k 0) (let e : length xs ≡ length xs + 0 = omega arith in e) ∙ get_or-append-add xs (n ∷ []) 0 0

  last_or_old : (i : ℕ) → i < length (xs ++ (n ∷ [])) → (i ≡ length xs) ⊎ (i < length xs)
  last_or_old i l = eq-or-lt_of_le (le_of_suc-le-suc (subst (λ (k : ℕ). i < k) length_last l))

module _ (g : ℕ → Bool) where
  -- n itself is a member, or it is not
  more_in : (n : ℕ) → g n ≡ true → members g (suc n) ≡ members g n ++ (n ∷ [])
  unfolding members
  more_in n e = ap (λ (t : Bool). cond t (members g n ++ (n ∷ [])) (members g n)) e

  more_out : (n : ℕ) → g n ≡ false → members g (suc n) ≡ members g n
  unfolding members
  more_out n e = ap (λ (t : Bool). cond t (members g n ++ (n ∷ [])) (members g n)) e

  -- a property of the members of g below n, and then below suc n
  module _ (P : ℕ → List ℕ → Type 0) (none : P zero []) (own : (n : ℕ) (xs : List ℕ) → g n ≡ true → P n xs → P (suc n) (xs ++ (n ∷ [])))
      (other : (n : ℕ) (xs : List ℕ) → g n ≡ false → P n xs → P (suc n) xs) where
    each : (n : ℕ) → P n (members g n)
    unfolding members
    each zero = none
    each (suc n) =
        ⊎_elim (λ (e : g n ≡ true). subst (λ (xs : List ℕ). P (suc n) xs) (sym (more_in n e)) (own n (members g n) e (each n)))
        (λ (e : g n ≡ false). subst (λ (xs : List ℕ). P (suc n) xs) (sym (more_out n e)) (other n (members g n) e (each n)))
        (by_test (g n))

  pub members_in : (n i : ℕ) → i < size g n → g (get_or (members g n) i 0) ≡ true
  unfolding size
  members_in =
      each (λ n xs. (i : ℕ) → i < length xs → g (get_or xs i 0) ≡ true) (λ i l. absurd (not-suc-le-zero l))
      (λ n xs e h i l.
      ⊎_elim (λ (s : i ≡ length xs). subst (λ (k : ℕ). g (get_or (xs ++ (n ∷ [])) k 0) ≡ true) (sym s) (ap g (get_or_new xs n) ∙ e))
      (λ (b : i < length xs). ap g (get_or_old xs n i b) ∙ h i b)
      (last_or_old xs n i l))
      (λ n xs e h i l. h i l)

  pub members_has : (n k : ℕ) → k < n → g k ≡ true → (i : ℕ) × (i < size g n) × (get_or (members g n) i 0 ≡ k)
  unfolding size
  members_has =
      each (λ n xs. (k : ℕ) → k < n → g k ≡ true → (i : ℕ) × (i < length xs) × (get_or xs i 0 ≡ k)) (λ k l e. absurd (not-suc-le-zero l))
      (λ n xs e h k l t.
      ⊎_elim (λ (s : k ≡ n). (length xs, omega (arith, length_last xs n), get_or_new xs n ∙ sym s))
      (λ (b : k < n).
      let old = h k b t in
      (old.0, omega (arith, length_last xs n, old.1), get_or_old xs n old.0 old.1 ∙ old.2))
      (eq-or-lt_of_le (le_of_suc-le-suc l)))
      (λ n xs e h k l t.
      ⊎_elim (λ (s : k ≡ n). absurd (true≢false (sym t ∙ ap g s ∙ e))) (λ (b : k < n). h k b t) (eq-or-lt_of_le (le_of_suc-le-suc l)))

  -- members are below n, and they rise: of two indices the later holds the larger number
  rise : (n : ℕ) → AllBelow n (members g n) × ((i j : ℕ) → i < j → j < length (members g n) → get_or (members g n) i 0 < get_or (members g n) j 0)
  rise =
      each (λ n xs. AllBelow n xs × ((i j : ℕ) → i < j → j < length xs → get_or xs i 0 < get_or xs j 0))
      ((λ i l. absurd (not-suc-le-zero l)), (λ i j b l. absurd (not-suc-le-zero l)))
      (λ n xs e h. (
        (λ i l.
            ⊎_elim (λ (s : i ≡ length xs). subst (λ (k : ℕ). get_or (xs ++ (n ∷ [])) k 0 < suc n) (sym s) (omega (arith, get_or_new xs n)))
            (λ (b : i < length xs). omega (arith, get_or_old xs n i b, h.0 i b)) (last_or_old xs n i l)),
        (λ i j b l.
            ⊎_elim
            (λ (s : j ≡ length xs).
            let inside : i < length xs = omega arith in
            subst (λ (k : ℕ). get_or (xs ++ (n ∷ [])) i 0 < get_or (xs ++ (n ∷ [])) k 0) (sym s)
            (omega (arith, get_or_new xs n, get_or_old xs n i inside, h.0 i inside)))
            (λ (c : j < length xs).
            let inside : i < length xs = omega arith in
            omega (arith, get_or_old xs n i inside, get_or_old xs n j c, h.1 i j b c))
            (last_or_old xs n j l)),
      ))
      (λ n xs e h. ((λ i l. omega (arith, h.0 i l)), h.1))

  pub members_below : (n : ℕ) → AllBelow n (members g n)
  members_below n = (rise n).0

  pub members_distinct : (n : ℕ) → Distinct (members g n)
  members_distinct n i j a b e =
      ⊎_elim (λ (l : i ≤ j). ⊎_elim (λ (s : i ≡ j). s) (λ (c : i < j). absurd (lt_irrefl _ (subst (λ (k : ℕ). k < get_or (members g n) j 0) e ((rise n).1 i j c b)))) (eq-or-lt_of_le l))
      (λ (c : j < i). absurd (lt_irrefl _ (subst (λ (k : ℕ). get_or (members g n) j 0 < k) e ((rise n).1 j i c a)))) (le_or_lt i j)

pub members_cong : (g h : ℕ → Bool) (n : ℕ) → ((k : ℕ) → k < n → g k ≡ h k) → members g n ≡ members h n
unfolding members
members_cong g h zero e = refl
members_cong g h (suc n) e =
    ap₂ (λ (t : Bool) (xs : List ℕ). cond t (xs ++ (n ∷ [])) xs) (e n (lt-suc_self n)) (members_cong g h n (λ k l. e k (omega arith)))
