-- The loop of `add_rows`: one row after another.
--
--   row_term                   a weight times its row: row k begins k strides into the source
--   one_row, all_rows         one row more, and every row
--   plus_twice                two rows, one after the other
use Rattle.std.proofs.Common.{◌≡◌, ℕ, ◌+◌, ◌*◌, ◌%◌, ◌^◌, List, length, get_or, drop, sym, refl, ap, ◌∙◌}
use Rattle.algebra.specs.Lists.{tab, entry}
use Rattle.algebra.proofs.Lists.{length_tab, get_or_tab}
use Rattle.algebra.proofs.Grids.{tab_cong}
use Rattle.sums.proofs.Steps.{sums_to, sums_more, row_entry}
use Rattle.sums_rows.specs.Internal.{plus, combination, added}

module _ (weights source : List ℕ) (stride : ℕ) where
  unfoldable pub row_term : ℕ → ℕ → ℕ
  row_term k j = get_or weights k 0 * entry stride source k j

  pub one_row : (sums now row : List ℕ) (i : ℕ) → now ≡ sums_to sums row_term i → row ≡ drop (i * stride) source
      → plus now (get_or weights i 0) row ≡ sums_to sums row_term (i + 1)
  unfolding plus row_term
  one_row sums now row i e r =
      let weight = get_or weights i 0 in
      sums_more sums row_term now (λ j. weight * get_or row j 0) i e (row_entry source row stride i r weight)

  pub all_rows : (sums : List ℕ) → sums_to sums row_term (length weights) ≡ added sums weights source stride
  unfolding sums_to row_term combination added
  all_rows sums = refl

pub plus_twice : (sums : List ℕ) (weight : ℕ) (row : List ℕ) (second : ℕ) (next : List ℕ)
    → tab (λ j. ((get_or sums j 0 + weight * get_or row j 0) % 2 ^ 64 + second * get_or next j 0) % 2 ^ 64) (length sums)
    ≡ plus (plus sums weight row) second next
unfolding plus
plus_twice sums weight row second next =
    let f : ℕ → ℕ = λ j. (get_or sums j 0 + weight * get_or row j 0) % 2 ^ 64 in
    let n = length sums in
    tab_cong _ _ n (λ j l. ap (λ (x : ℕ). (x + second * get_or next j 0) % 2 ^ 64) (sym (get_or_tab f n j 0 l)))
    ∙ ap (tab (λ j. (get_or (tab f n) j 0 + second * get_or next j 0) % 2 ^ 64)) (sym (length_tab f n))
