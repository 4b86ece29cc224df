-- Sums of 64 bits, to which rows are added one after another; and the row that comes next.
--
--   sums_to                    each sum with the terms f k of the first i steps k, in 64 bits
--   length_sums               as many as before
--   sums_none, sums_more      no step, and one more
--   row_entry                 the row that begins i strides into the source has its elements
--   rest_more                 what is left of the source after one more row
use mathlib.Core.Path.{◌≡◌, sym, ap, ◌∙◌}
use mathlib.Core.List.{List}
use Prim.Native.Nat.{ℕ, ◌+◌, ◌*◌, ◌%◌, ◌^◌, ◌<◌}
use native.Mathlib.Numerals.{add-one}
use native.Mathlib.Omega.{arith}
use lib.ListN.{length, get_or, drop}
use lib.Seq.{get_or-drop, drop-drop, ext_get_or}
use Rattle.algebra.specs.Lists.{tab, entry}
use Rattle.algebra.specs.Sums.{sum}
use Rattle.algebra.proofs.Lists.{length_tab, get_or_tab}
use Rattle.algebra.proofs.Grids.{tab_cong}

module _ (sums : List ℕ) (f : ℕ → ℕ → ℕ) where
  unfoldable pub sums_to : ℕ → List ℕ
  sums_to i = tab (λ j. (get_or sums j 0 + sum i (λ k. f k j)) % 2 ^ 64) (length sums)

  pub length_sums : (i : ℕ) → length (sums_to i) ≡ length sums
  unfolding sums_to
  length_sums i = length_tab _ (length sums)

  pub sums_none : ((j : ℕ) → j < length sums → get_or sums j 0 < 2 ^ 64) → sums ≡ sums_to 0
  unfolding sums_to sum
  sums_none small =
      ext_get_or 0 sums (sums_to 0) (sym (length_sums 0)) (λ j l.
      let fits = small j l in
      let same : get_or sums j 0 ≡ (get_or sums j 0 + 0) % 2 ^ 64 = omega arith in
      same ∙ sym (get_or_tab _ (length sums) j 0 l))

  pub sums_more : (now : List ℕ) (term : ℕ → ℕ) (i : ℕ) → now ≡ sums_to i → ((j : ℕ) → term j ≡ f i j)
      → tab (λ j. (get_or now j 0 + term j) % 2 ^ 64) (length now) ≡ sums_to (i + 1)
  unfolding sums_to sum
  sums_more now term i e is =
      rw add-one
      (ap (tab (λ j. (get_or now j 0 + term j) % 2 ^ 64)) (ap length e ∙ length_sums i)
      ∙ tab_cong _ _ (length sums) (λ j l.
      let before : get_or now j 0 ≡ (get_or sums j 0 + sum i (λ k. f k j)) % 2 ^ 64
      = ap (λ (xs : List ℕ). get_or xs j 0) e ∙ get_or_tab _ (length sums) j 0 l in
      let more : (get_or now j 0 + term j) % 2 ^ 64 ≡ (get_or sums j 0 + (sum i (λ k. f k j) + f i j)) % 2 ^ 64
      = omega (arith, is j) in
      more))

pub row_entry : (source row : List ℕ) (stride i : ℕ) → row ≡ drop (i * stride) source → (weight j : ℕ) → weight * get_or row j 0 ≡ weight * entry stride source i j
unfolding entry
row_entry source row stride i r weight j =
    ap (λ (x : ℕ). weight * x) (ap (λ (xs : List ℕ). get_or xs j 0) r ∙ get_or-drop (i * stride) source j 0)

pub rest_more : (source rest next : List ℕ) (i stride : ℕ) → rest ≡ drop (i * stride) source → next ≡ drop stride rest → next ≡ drop ((i + 1) * stride) source
rest_more source rest next i stride e more =
    let end : i * stride + stride ≡ (i + 1) * stride = omega arith in
    more ∙ ap (drop stride) e ∙ drop-drop stride (i * stride) source ∙ ap (λ (k : ℕ). drop k source) end
