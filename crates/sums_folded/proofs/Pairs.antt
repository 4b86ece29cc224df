-- Laws of sums made pair by pair, over any term.
--
--   up_to_is, up_to_none    the numbers that there are, and those past them
--   up_to_most             a bound of those holds everywhere
--   pairs_all             where a term is the sum of both, the pairs have every number
--   paired_≈              where it is that sum modulo q, the paired sum is the sum modulo q
--   paired_bound          where each term is at most b
use Rattle.std.proofs.Common.{◌≡◌, ℕ, suc, ◌+◌, ◌*◌, ◌/◌, ◌<◌, ◌≤◌, Bool, cond, sym, ap, ◌∙◌, ⊎_elim, arith, le-ltb, lt-ltb}
use Rattle.algebra.specs.Modular.{⟨◌⟩◌≈◌}
use Rattle.algebra.specs.Sums.{sum}
use Rattle.algebra.proofs.Orders.{le_or_lt}
use Rattle.algebra.proofs.Modular.{≈_trans, ≈_of_eq}
use Rattle.algebra.proofs.Sums.{sum_cong, sum_≈, sum_bound, sum_split}
use Rattle.sums_folded.specs.Internal.{up_to, pair_at, paired}

module _ (n : ℕ) (f : ℕ → ℕ) where
  pub up_to_is : (i : ℕ) → i < n → up_to n f i ≡ f i
  unfolding up_to
  up_to_is i l = ap (λ (t : Bool). cond t (f i) 0) (lt-ltb i n l)

  pub up_to_none : (i : ℕ) → n ≤ i → up_to n f i ≡ 0
  unfolding up_to
  up_to_none i l = ap (λ (t : Bool). cond t (f i) 0) (le-ltb i n l)

  up_to_most : (b : ℕ) → ((i : ℕ) → i < n → f i ≤ b) → (i : ℕ) → up_to n f i ≤ b
  up_to_most b h i = ⊎_elim (λ (l : n ≤ i). omega (arith, up_to_none i l)) (λ (l : i < n). omega (arith, up_to_is i l, h i l)) (le_or_lt n i)

  two : (c : ℕ) → pair_at ◌+◌ n f c ≡ sum 2 (λ j. up_to n f (c * 2 + j))
  unfolding pair_at sum
  two c = let e : c * 2 ≡ c * 2 + 0 = omega arith in omega (arith, ap (up_to n f) e)

  pub pairs_all : paired ◌+◌ n f ≡ sum n f
  unfolding paired sum
  pairs_all =
      let h : ℕ = (n + 1) / 2 in
      sum_cong h (pair_at ◌+◌ n f) (λ c. sum 2 (λ j. up_to n f (c * 2 + j))) (λ c l. two c)
      ∙ sym (sum_split h 2 (up_to n f))
      ∙ ⊎_elim even odd (le_or_lt (h * 2) n)
    where
      inside : sum n (up_to n f) ≡ sum n f
      inside = sum_cong n (up_to n f) f (λ i l. up_to_is i l)

      even : (n + 1) / 2 * 2 ≤ n → sum ((n + 1) / 2 * 2) (up_to n f) ≡ sum n f
      even l = let e : (n + 1) / 2 * 2 ≡ n = omega arith in ap (λ (k : ℕ). sum k (up_to n f)) e ∙ inside

      odd : n < (n + 1) / 2 * 2 → sum ((n + 1) / 2 * 2) (up_to n f) ≡ sum n f
      odd l =
          let e : (n + 1) / 2 * 2 ≡ suc n = omega arith in
          let last : sum (suc n) (up_to n f) ≡ sum n (up_to n f) = omega (arith, up_to_none n (omega arith)) in
          ap (λ (k : ℕ). sum k (up_to n f)) e ∙ last ∙ inside

  module _ (term : ℕ → ℕ → ℕ) (most : ℕ) (small : (i : ℕ) → i < n → f i ≤ most) where
    pub paired_≈ : {q : ℕ} → ((x y : ℕ) → x ≤ most → y ≤ most → ⟨ q ⟩ term x y ≈ x + y) → ⟨ q ⟩ paired term n f ≈ sum n f
    unfolding paired pair_at
    paired_≈ same =
        ≈_trans
        (sum_≈ ((n + 1) / 2) (pair_at term n f) (pair_at ◌+◌ n f) (λ c l. same _ _ (up_to_most most small (c * 2)) (up_to_most most small (c * 2 + 1))))
        (≈_of_eq pairs_all)

    pub paired_bound : (b : ℕ) → ((x y : ℕ) → x ≤ most → y ≤ most → term x y ≤ b) → paired term n f ≤ (n + 1) / 2 * b
    unfolding paired pair_at
    paired_bound b low =
        sum_bound ((n + 1) / 2) b (pair_at term n f) (λ c l. low _ _ (up_to_most most small (c * 2)) (up_to_most most small (c * 2 + 1)))
