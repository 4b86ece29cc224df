-- A row of the encoded block, in sums of 64 bits.
--
--   row_sums_lem    cleared sums, the blocks' part and the masks' part: the sums of the row
use mathlib.Core.Path.{◌≡◌, ◌∙◌}
use mathlib.Core.List.{List}
use Prim.Native.Nat.{ℕ, ◌+◌, ◌%◌, ◌^◌}
use lib.ListN.{length, get_or}
use Rattle.algebra.specs.Lists.{tab}
use Rattle.sums.specs.Internal.{zeros}
use Rattle.sums.proofs.Exact.{known_more, zeros_more}
use Rattle.share_side.specs.declared.Side.{Side}
use Rattle.share_blocks.specs.Internal.{block_terms, mask_terms, row_sums}

pub row_sums_lem : (q : ℕ) (s : Side) (w xs ms : List ℕ) (i : ℕ) (sums cleared blocks both : List ℕ) → cleared ≡ zeros sums
    → blocks ≡ tab (λ j. (get_or cleared j 0 + block_terms q s w xs i j) % 2 ^ 64) (length cleared)
    → both ≡ tab (λ j. (get_or blocks j 0 + mask_terms q s w ms i j) % 2 ^ 64) (length blocks)
    → both ≡ tab (λ j. row_sums q s w xs ms i j % 2 ^ 64) (length sums)
unfolding row_sums
row_sums_lem q s w xs ms i sums cleared blocks both ec eb ea =
    ea ∙ known_more (mask_terms q s w ms i) (block_terms q s w xs i) (length sums) blocks (rw ec at eb ∙ zeros_more (block_terms q s w xs i) sums)
