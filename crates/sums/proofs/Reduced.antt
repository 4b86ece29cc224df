-- Sums that are reduced to an output of their own length.
--
--   reduced_tab    as many sums as the output has room for
use mathlib.Core.Path.{◌≡◌, ap, ◌∙◌}
use mathlib.Core.List.{List, ◌++◌}
use Prim.Native.Nat.{ℕ, ◌%◌, min}
use native.Mathlib.Omega.{arith}
use lib.ListN.{length, get_or, drop}
use Rattle.algebra.specs.Lists.{tab}
use Rattle.algebra.proofs.Lists.{length_tab, get_or_tab}
use Rattle.algebra.proofs.Grids.{tab_cong}
use Rattle.algebra.proofs.Fronts.{front_all}
use Rattle.sums.specs.Internal.{reduced}

pub reduced_tab : (q n : ℕ) (f : ℕ → ℕ) (out : List ℕ) → length out ≡ n → reduced q (tab f n) out ≡ tab (λ j. f j % q) n
unfolding reduced
reduced_tab q n f out e =
    let all : min (length (tab f n)) (length out) ≡ n = omega (arith, length_tab f n) in
    ap (λ (k : ℕ). tab (λ j. get_or (tab f n) j 0 % q) k ++ drop k out) all
    ∙ front_all (λ j. get_or (tab f n) j 0 % q) out n (omega arith)
    ∙ tab_cong _ _ n (λ j l. ap (λ (x : ℕ). x % q) (get_or_tab f n j 0 l))
