-- Loops that add products pair by pair. f j i is product i in column j, of n products.
--
--   pair_terms               pair c in column j
--   pairs_more, pairs_last  one pair more, and an odd last product
--   fronts_enough           of a row no more elements matter than there are sums
--   row_product              weight i times element j of row i: row i begins i strides into the source
--   all_pairs               every pair
use Rattle.std.proofs.Common.{◌≡◌, ℕ, ◌+◌, ◌*◌, ◌/◌, ◌%◌, ◌^◌, ◌<◌, List, length, get_or, take, sym, refl, ◌∙◌, ap₂, arith, get_or-take}
use Rattle.algebra.specs.Lists.{entry}
use Rattle.algebra.proofs.Grids.{tab_cong}
use Rattle.sums.proofs.Steps.{sums_to, sums_more}
use Rattle.sums_folded.specs.Internal.{pair_at, paired, paired_two, paired_combination, paired_added}
use Rattle.sums_folded.proofs.Pairs.{up_to_is, up_to_none}

module _ (term : ℕ → ℕ → ℕ) (n : ℕ) (f : ℕ → ℕ → ℕ) where
  abbrev pub pair_terms : ℕ → ℕ → ℕ
  pair_terms c j = pair_at term n (f j) c

  module _ (sums now : List ℕ) (c : ℕ) (is : now ≡ sums_to sums pair_terms c) (a : ℕ) (row : List ℕ) (first : (j : ℕ) → a * get_or row j 0 ≡ f j (c * 2)) where
    pub pairs_more : c * 2 + 1 < n → (b : ℕ) (next : List ℕ) → ((j : ℕ) → b * get_or next j 0 ≡ f j (c * 2 + 1))
        → paired_two term now a row b next ≡ sums_to sums pair_terms (c + 1)
    unfolding paired_two pair_at
    pairs_more there b next second =
        sums_more sums pair_terms now (λ j. term (a * get_or row j 0) (b * get_or next j 0)) c is (λ j.
        ap₂ term
        (first j ∙ sym (up_to_is n (f j) (c * 2) (omega arith)))
        (second j ∙ sym (up_to_is n (f j) (c * 2 + 1) there)))

    pub pairs_last : n ≡ c * 2 + 1 → paired_two term now a row 0 row ≡ sums_to sums pair_terms (c + 1)
    unfolding paired_two pair_at
    pairs_last all =
        sums_more sums pair_terms now (λ j. term (a * get_or row j 0) (0 * get_or row j 0)) c is (λ j.
        let none : 0 * get_or row j 0 ≡ 0 = omega arith in
        ap₂ term
        (first j ∙ sym (up_to_is n (f j) (c * 2) (omega arith)))
        (none ∙ sym (up_to_none n (f j) (c * 2 + 1) (omega arith))))

pub fronts_enough : (term : ℕ → ℕ → ℕ) (sums : List ℕ) (a : ℕ) (row : List ℕ) (b : ℕ) (next : List ℕ)
    → let n = length sums in
    paired_two term sums a (take n row) b (take n next) ≡ paired_two term sums a row b next
unfolding paired_two
fronts_enough term sums a row b next =
    tab_cong _ _ (length sums) (λ j l.
    ap₂ (λ (x y : ℕ). (get_or sums j 0 + term (a * x) (b * y)) % 2 ^ 64) (get_or-take (length sums) row j 0 l) (get_or-take (length sums) next j 0 l))

module _ (weights source : List ℕ) (stride : ℕ) where
  abbrev pub row_product : ℕ → ℕ → ℕ
  row_product j i = get_or weights i 0 * entry stride source i j

  pub all_pairs : (term : ℕ → ℕ → ℕ) (sums : List ℕ)
      → sums_to sums (pair_terms term (length weights) row_product) ((length weights + 1) / 2) ≡ paired_added term sums weights source stride
  unfolding sums_to paired_combination paired_added paired
  all_pairs term sums = refl
