-- The two ways in which rows are added, by the size of the prime.
--
--   when_large    terms of a large prime are folded
--   when_small    terms of another are the sums of both products
--   one_plain, two_plain, all_plain    sums to which rows are added without folding
--   added_small   so rows are added where the prime is not large
use mathlib.Core.Path.{◌≡◌, sym, ap, ◌∙◌}
use mathlib.Core.Bool.{Bool, true, false, cond}
use mathlib.Core.List.{List}
use Prim.Native.Nat.{ℕ, ◌+◌, ◌*◌, ◌%◌, ◌^◌}
use native.Mathlib.Omega.{arith}
use lib.ListN.{length, get_or}
use Rattle.algebra.specs.Lists.{tab, entry}
use Rattle.algebra.proofs.Lists.{length_tab, get_or_tab}
use Rattle.algebra.proofs.Grids.{tab_cong}
use Rattle.sums_rows.specs.Internal.{plus, combination as rows_combination, added as rows_added}
use Rattle.sums_folded.specs.Internal.{folded, paired_two, paired_combination, paired_added}
use Rattle.sums_folded.proofs.Pairs.{pairs_all}
use Rattle.sums_modular.specs.Internal.{large, pair_term, added}

module _ (q : ℕ) where
  pub when_large : large q ≡ true → pair_term q ≡ folded
  unfolding pair_term
  when_large e = ap (λ (b : Bool). λ (x y : ℕ). cond b (folded x y) (x + y)) e

  pub when_small : large q ≡ false → pair_term q ≡ ◌+◌
  unfolding pair_term
  when_small e = ap (λ (b : Bool). λ (x y : ℕ). cond b (folded x y) (x + y)) e

pub one_plain : (sums : List ℕ) (weight : ℕ) (row : List ℕ) → plus sums weight row ≡ paired_two ◌+◌ sums weight row 0 row
unfolding plus paired_two
one_plain sums weight row = tab_cong _ _ (length sums) (λ j l. let same : (get_or sums j 0 + weight * get_or row j 0) % 2 ^ 64 ≡ (get_or sums j 0 + (weight * get_or row j 0 + 0 * get_or row j 0)) % 2 ^ 64 = omega arith in same)

pub two_plain : (sums : List ℕ) (a : ℕ) (row : List ℕ) (b : ℕ) (next : List ℕ) → plus (plus sums a row) b next ≡ paired_two ◌+◌ sums a row b next
unfolding plus paired_two
two_plain sums a row b next =
    let f : ℕ → ℕ = λ j. (get_or sums j 0 + a * get_or row j 0) % 2 ^ 64 in
    let n = length sums in
    ap (tab (λ j. (get_or (tab f n) j 0 + b * get_or next j 0) % 2 ^ 64)) (length_tab f n)
    ∙ tab_cong _ _ n (λ j l.
    let once : get_or (tab f n) j 0 ≡ (get_or sums j 0 + a * get_or row j 0) % 2 ^ 64 = get_or_tab f n j 0 l in
    let same : (get_or (tab f n) j 0 + b * get_or next j 0) % 2 ^ 64 ≡ (get_or sums j 0 + (a * get_or row j 0 + b * get_or next j 0)) % 2 ^ 64 = omega arith in
    same)

pub all_plain : (sums weights source : List ℕ) (stride : ℕ) → rows_added sums weights source stride ≡ paired_added ◌+◌ sums weights source stride
unfolding rows_added rows_combination paired_added paired_combination
all_plain sums weights source stride =
    tab_cong _ _ (length sums) (λ j l.
    ap (λ (x : ℕ). (get_or sums j 0 + x) % 2 ^ 64) (sym (pairs_all (length weights) (λ i. get_or weights i 0 * entry stride source i j))))

pub added_small : (q : ℕ) → large q ≡ false → (sums weights source : List ℕ) (stride : ℕ) → added q sums weights source stride ≡ rows_added sums weights source stride
added_small q e sums weights source stride =
    ap (λ (term : ℕ → ℕ → ℕ). paired_added term sums weights source stride) (when_small q e) ∙ sym (all_plain sums weights source stride)
