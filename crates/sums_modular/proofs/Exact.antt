-- Totals of products of elements: modulo the prime they are the sums, and 4096 of them stay below 2 ^ 64.
--
--   Foldable q           numbers below q are of 31 bits, and where q is large, folding keeps numbers the same modulo q
--   foldable             so is each modulus, by one test over all of them
--   fold_≈               a folded number is the same modulo q
--   term_≈, term_bound   two products of numbers below q, as one term: the same modulo q, and small
--   total_≈, total_bound many of them
--   total_fits           as many as a block has elements fit 64 bits
--   product_small        a product of two elements
--   combination_≈, combination_bound, combination_fits   the same of weights times rows
--   added_zeros          from sums that are all 0: the combinations themselves, where they fit
use mathlib.Core.Path.{◌≡◌, ap, subst}
use mathlib.Core.Bool.{Bool, true, false, not, ◌&&◌, ◌||◌}
use mathlib.Core.List.{List}
use mathlib.Core.Logic.{⊎_elim}
use Prim.Native.Nat.{ℕ, ◌+◌, ◌*◌, ◌/◌, ◌%◌, ◌^◌, ◌-◌, ◌<◌, ◌≤◌}
use native.Mathlib.Nat.{le_of_lt, mul-le-mul}
use native.Mathlib.Omega.{arith}
use lib.Dec.{T, ltb, eqb, ltb→lt, eqb→eq}
use lib.ListN.{length, get_or}
use borrow.Author.Tests.{leb-false}
use Rattle.algebra.specs.Lists.{tab, entry, AllBelow}
use Rattle.algebra.specs.Modular.{⟨◌⟩◌≈◌}
use Rattle.algebra.specs.Sums.{sum}
use Rattle.algebra.proofs.Lists.{below_anywhere}
use Rattle.algebra.proofs.Modular.{≈_refl, ≈_sym, ≈_trans, ≈_of_eq, ≈_add, ≈_scale}
use Rattle.algebra.proofs.Primes.{each}
use Rattle.algebra.proofs.Tests.{by_test, and_left, and_right, either}
use Rattle.refusal.specs.Limits.{most_elements}
use Rattle.field.specs.declared.Modulus.{Modulus}
use Rattle.field.specs.Modulus.{moduli, prime}
use Rattle.field.proofs.Moduli.{at_modulus, prime_prime}
use Rattle.sums.specs.Internal.{zeros}
use Rattle.sums.proofs.Exact.{zeros_exact}
use Rattle.sums_folded.specs.Internal.{fold, folded, paired_combination, paired_added}
use Rattle.sums_folded.proofs.Pairs.{paired_≈, paired_bound}
use Rattle.sums_modular.specs.Internal.{large, pair_term, total, combination, added}
use Rattle.sums_modular.proofs.Picked.{when_large, when_small}

pub record Foldable (q : ℕ) : Type 0 where
  pub below : q < 2 ^ 31
  pub folds : large q ≡ true → ⟨ q ⟩ 2 ^ 31 ≈ 1

-- ---- each modulus, by a test that is computed once

fold_test : ℕ → Bool
fold_test q = ltb q (2 ^ 31) && (not (large q) || eqb (2 ^ 31 % q) (1 % q))

fold_tested : T (each fold_test moduli)
unfolding each fold_test large moduli
fold_tested = tt

tested : (q : ℕ) → T (fold_test q) → Foldable q
unfolding fold_test
tested q t =
    let low = ltb q (2 ^ 31) in
    let one = eqb (2 ^ 31 % q) (1 % q) in
    let rest = and_right low (not (large q) || one) t in
    record {
      below = ltb→lt q (2 ^ 31) (and_left low (not (large q) || one) t);
      folds = λ e. ⊎_elim (λ (n : T (not (large q))). absurd (subst (λ (b : Bool). T (not b)) e n))
          (λ (s : T one). record { same = eqb→eq (2 ^ 31 % q) (1 % q) s })
          (either (not (large q)) one rest);
    }

pub foldable : (m : Modulus) → Foldable (prime m)
foldable m = tested (prime m) (at_modulus fold_test fold_tested m)

-- ---- products of numbers below q

module _ {q : ℕ} (foldable : Foldable q) where
  fold_≈ : large q ≡ true → (n : ℕ) → ⟨ q ⟩ fold n ≈ n
  unfolding fold
  fold_≈ e n =
      let parts : n % 2 ^ 31 + n / 2 ^ 31 * 2 ^ 31 ≡ n = omega arith in
      let upper : ⟨ q ⟩ n / 2 ^ 31 * 1 ≈ n / 2 ^ 31 * 2 ^ 31 = ≈_scale (n / 2 ^ 31) (≈_sym (foldable.folds e)) in
      let once : n / 2 ^ 31 ≡ n / 2 ^ 31 * 1 = omega arith in
      ≈_trans (≈_add (≈_refl (n % 2 ^ 31)) (≈_trans (≈_of_eq once) upper)) (≈_of_eq parts)

  -- two products fit 64 bits
  square_small : q * q ≤ (2 ^ 31 - 1) * (2 ^ 31 - 1)
  square_small = let h : q ≤ 2 ^ 31 - 1 = omega (arith, foldable.below) in mul-le-mul h h

  module _ (x y : ℕ) (hx : x ≤ q * q) (hy : y ≤ q * q) where
    whole : (x + y) % 2 ^ 64 ≡ x + y
    whole = let s = square_small in omega arith

    term_≈ : ⟨ q ⟩ pair_term q x y ≈ x + y
    unfolding folded
    term_≈ =
        ⊎_elim (λ (e : large q ≡ true). ≈_trans (≈_of_eq (ap (λ (t : ℕ → ℕ → ℕ). t x y) (when_large q e))) (≈_trans (fold_≈ e _) (≈_of_eq whole)))
        (λ (e : large q ≡ false). ≈_of_eq (ap (λ (t : ℕ → ℕ → ℕ). t x y) (when_small q e)))
        (by_test (large q))

    term_bound : pair_term q x y ≤ 2 ^ 53 - 2
    unfolding folded fold large
    term_bound =
        ⊎_elim (λ (e : large q ≡ true). let is = ap (λ (t : ℕ → ℕ → ℕ). t x y) (when_large q e) in omega (arith, whole))
        (λ (e : large q ≡ false).
        let is = ap (λ (t : ℕ → ℕ → ℕ). t x y) (when_small q e) in
        let h : q ≤ 2 ^ 26 - 1 = omega (arith, leb-false (2 ^ 26) q e) in
        omega (arith, mul-le-mul h h))
        (by_test (large q))

  module _ (n : ℕ) (f : ℕ → ℕ) (small : (i : ℕ) → i < n → f i ≤ q * q) where
    pub total_≈ : ⟨ q ⟩ total q n f ≈ sum n f
    total_≈ = paired_≈ n f (pair_term q) (q * q) small term_≈

    pub total_bound : total q n f ≤ (n + 1) / 2 * (2 ^ 53 - 2)
    total_bound = paired_bound n f (pair_term q) (q * q) small (2 ^ 53 - 2) term_bound

    pub total_fits : n ≤ most_elements → total q n f < 2 ^ 64
    total_fits few = let b = total_bound in omega arith

-- ---- weights times rows of elements

pub product_small : (q a b : ℕ) → a < q → b < q → a * b ≤ q * q
product_small q a b ha hb = mul-le-mul (le_of_lt ha) (le_of_lt hb)

module _ (m : Modulus) (weights source : List ℕ) (stride j : ℕ) (hw : AllBelow (prime m) weights) (hs : AllBelow (prime m) source) where
  small : (i : ℕ) → i < length weights → get_or weights i 0 * entry stride source i j ≤ prime m * prime m
  unfolding entry
  small i l = product_small (prime m) _ _ (hw i l) (below_anywhere (prime m) source (omega (arith, (prime_prime m).above_one)) hs (i * stride + j))

  pub combination_≈ : ⟨ prime m ⟩ combination (prime m) weights source stride j ≈ sum (length weights) (λ i. get_or weights i 0 * entry stride source i j)
  unfolding paired_combination
  combination_≈ = total_≈ (foldable m) (length weights) _ small

  pub combination_bound : combination (prime m) weights source stride j ≤ (length weights + 1) / 2 * (2 ^ 53 - 2)
  unfolding paired_combination
  combination_bound = total_bound (foldable m) (length weights) _ small

  pub combination_fits : length weights ≤ most_elements → combination (prime m) weights source stride j < 2 ^ 64
  unfolding paired_combination
  combination_fits few = total_fits (foldable m) (length weights) _ small few

pub added_zeros : (q : ℕ) (weights source : List ℕ) (stride : ℕ) (sums : List ℕ) → ((j : ℕ) → j < length sums → combination q weights source stride j < 2 ^ 64)
    → added q (zeros sums) weights source stride ≡ tab (combination q weights source stride) (length sums)
unfolding paired_added
added_zeros q weights source stride sums small = zeros_exact (combination q weights source stride) sums small
