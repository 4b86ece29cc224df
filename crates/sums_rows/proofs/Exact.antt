-- Combinations that stay below 2 ^ 64: the sums are then the combinations themselves.
--
--   added_zeros           added to sums that are all 0
use Rattle.std.proofs.Common.{◌≡◌, ℕ, ◌^◌, ◌<◌, List, length}
use Rattle.algebra.specs.Lists.{tab}
use Rattle.sums.specs.Internal.{zeros}
use Rattle.sums.proofs.Exact.{zeros_exact}
use Rattle.sums_rows.specs.Internal.{combination, added}

pub added_zeros : (weights source : List ℕ) (stride : ℕ) (sums : List ℕ)
    → ((j : ℕ) → j < length sums → combination weights source stride j < 2 ^ 64)
    → added (zeros sums) weights source stride ≡ tab (combination weights source stride) (length sums)
unfolding added
added_zeros weights source stride sums small = zeros_exact (combination weights source stride) sums small
