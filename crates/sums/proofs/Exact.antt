-- Sums of 64 bits to which numbers g are added.
--
--   known_more     sums that are known modulo 2 ^ 64
--   zeros_more     sums that are all 0
--   zeros_exact    the same, where the numbers fit
use mathlib.Core.Path.{◌≡◌, refl, ap, ◌∙◌}
use mathlib.Core.List.{List}
use Prim.Native.Nat.{ℕ, ◌+◌, ◌%◌, ◌^◌, ◌<◌}
use native.Mathlib.Nat.{zero-add}
use native.Mathlib.Omega.{arith}
use lib.ListN.{length, get_or}
use Rattle.algebra.specs.Lists.{tab}
use Rattle.algebra.proofs.Lists.{length_tab, get_or_tab}
use Rattle.algebra.proofs.Grids.{tab_cong}
use Rattle.sums.specs.Internal.{zeros}

module _ (g : ℕ → ℕ) where
  pub known_more : (f : ℕ → ℕ) (n : ℕ) (sums : List ℕ) → sums ≡ tab (λ j. f j % 2 ^ 64) n
      → tab (λ j. (get_or sums j 0 + g j) % 2 ^ 64) (length sums) ≡ tab (λ j. (f j + g j) % 2 ^ 64) n
  known_more f n sums e =
      let all : length sums ≡ n = ap length e ∙ length_tab _ n in
      ap (tab (λ j. (get_or sums j 0 + g j) % 2 ^ 64)) all
      ∙ tab_cong _ _ n (λ j l.
      let before : get_or sums j 0 ≡ f j % 2 ^ 64 = ap (λ (xs : List ℕ). get_or xs j 0) e ∙ get_or_tab _ n j 0 l in
      let same : (get_or sums j 0 + g j) % 2 ^ 64 ≡ (f j + g j) % 2 ^ 64 = omega arith in
      same)

  pub zeros_more : (sums : List ℕ) → tab (λ j. (get_or (zeros sums) j 0 + g j) % 2 ^ 64) (length (zeros sums)) ≡ tab (λ j. g j % 2 ^ 64) (length sums)
  unfolding zeros
  zeros_more sums =
      known_more (λ j. 0) (length sums) (zeros sums) refl
      ∙ tab_cong _ _ (length sums) (λ j l. ap (λ (x : ℕ). x % 2 ^ 64) (zero-add (g j)))

  pub zeros_exact : (sums : List ℕ) → ((j : ℕ) → j < length sums → g j < 2 ^ 64)
      → tab (λ j. (get_or (zeros sums) j 0 + g j) % 2 ^ 64) (length (zeros sums)) ≡ tab g (length sums)
  zeros_exact sums small =
      zeros_more sums ∙ tab_cong _ _ (length sums) (λ j l. let fits = small j l in let exact : g j % 2 ^ 64 ≡ g j = omega arith in exact)
