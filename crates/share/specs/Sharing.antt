-- Sharing (01, "Exponents" and "What is turned down", Share).
-- k, l, i, j and y count from 0: k and l are a block's row and column in the grid of blocks, i and j an element's in a block.
--
--   block_entry s xs k l i j        == the element at i, j of block k, l
--   mask_entry s ms y i j           == the element at i, j of mask y: the masks lie one after another, row by row
--   share_entry e s x xs ms i j     == the sum at i, j of blocks and masks, each times the point x to its exponent
--   share_of q e s x xs ms          == the share: these sums modulo q, row by row
--   point points host              == the point of a host, numbered from 1
--   host_share m job points host .. == the share of a host
--   share_tests                     == the tests of sharing: the plan's, 12, and those of the side's matrix and masks
--   share_after                     == what the output then holds
use Rattle.std.specs.Prelude.{List, ◌∷◌, ◌++◌, ℕ, ◌+◌, ◌-◌, ◌*◌, ◌^◌, ◌%◌, length, get_or}
use Rattle.algebra.specs.Lists.{grid, entry}
use Rattle.algebra.specs.Sums.{sum}
use Rattle.refusal.specs.Chain.{Test, outside, unless_refused}
use Rattle.layout.specs.Exponents.{Exponents, exponents, term}
use Rattle.plan.specs.declared.Job.{Job}
use Rattle.plan.specs.Planning.{prime, parameters, layout_of, plan_tests}
use Rattle.share_side.specs.declared.Matrix.{Matrix}
use Rattle.share_side.specs.declared.Side.{Side}
use Rattle.share_side.specs.Sides.{side, matrix_tests}

unfoldable pub block_entry : Side → List ℕ → ℕ → ℕ → ℕ → ℕ → ℕ
block_entry s xs k l i j =
    entry (s.grid_columns * s.block_columns) xs (k * s.block_rows + i) (l * s.block_columns + j)

unfoldable pub mask_entry : Side → List ℕ → ℕ → ℕ → ℕ → ℕ
mask_entry s ms y i j = entry s.block_columns ms (y * s.block_rows + i) j

unfoldable pub share_entry : Exponents → Side → ℕ → List ℕ → List ℕ → ℕ → ℕ → ℕ
share_entry e s x xs ms i j =
    sum s.grid_rows (λ k. sum s.grid_columns (λ l. block_entry s xs k l i j * x ^ term e s.blocks k l))
    + sum s.mask_count (λ y. mask_entry s ms y i j * x ^ term e s.masks 0 y)

unfoldable pub share_of : ℕ → Exponents → Side → ℕ → List ℕ → List ℕ → List ℕ
share_of q e s x xs ms = grid (λ i j. share_entry e s x xs ms i j % q) s.block_rows s.block_columns

unfoldable pub point : List ℕ → ℕ → ℕ
point points host = get_or points (host - 1) 0

unfoldable pub host_share : Matrix → Job → List ℕ → ℕ → List ℕ → List ℕ → List ℕ
host_share m job points host xs ms =
    share_of (prime job) (exponents (layout_of job) (parameters job)) (side m job) (point points host) xs ms

-- room is how many elements the output has room for
unfoldable pub share_tests : Matrix → Job → List ℕ → ℕ → List ℕ → List ℕ → ℕ → List Test
share_tests m job points host xs ms room =
    plan_tests job points ++ ((outside 1 job.hosts host, 12) ∷ matrix_tests (prime job) (side m job) xs ms room)

unfoldable pub share_after : Matrix → Job → List ℕ → ℕ → List ℕ → List ℕ → List ℕ → List ℕ
share_after m job points host xs ms out =
    unless_refused (share_tests m job points host xs ms (length out)) (host_share m job points host xs ms) out
