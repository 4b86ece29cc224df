-- How the code decodes: the weights of the chosen hosts, computed once; by these the table is put together from their answers.
-- The table's blocks are numbered from 0, row by row. xs are the chosen hosts' points.
--
--   Limited job plan       == the plan of an accepted job, and the limits that it keeps
--   shape plan             == the table: its grid of blocks, and a block
--   place_of plan k j       == the place of the table's block at row k and column j of the grid
--   host_weight plan x xs roots b == the weight of the host at point x in block b: the coefficient of its basis polynomial at the
--                             block's place, by division of the product of the roots xs
--   decoding_weights plan xs == the weights, host by host
--   weighted_table plan indices xs store table == what the table then holds: what these weights make of the answers of the hosts
--                             with these indices
--   Roomy plan hosts       == so many hosts and the table's blocks have room, and each block's place is below the number of hosts
use Rattle.std.specs.Prelude.{◌≡◌, List, ℕ, ◌+◌, ◌*◌, ◌/◌, ◌%◌, ◌<◌, ◌≤◌, length, get_or}
use Rattle.algebra.specs.Lists.{grid}
use Rattle.refusal.specs.Limits.{most_elements}
use Rattle.field.specs.Modulus.{prime as modulus_prime}
use Rattle.layout.specs.Exponents.{exponents}
use Rattle.plan.specs.declared.Job.{Job}
use Rattle.plan.specs.declared.Plan.{Plan}
use Rattle.plan.specs.Planning.{prime, block_rows, block_columns, plan_of}
use Rattle.decode_basis.specs.Internal.{coefficients, root_product, quotient, basis_scale}
use Rattle.decode_table.specs.declared.Shape.{Shape}
use Rattle.decode_table.specs.Internal.{block_count, table_after}

pub record Limited (job : Job) (plan : Plan) : Type 0 where
  pub is : plan ≡ plan_of job
  pub modulus : modulus_prime plan.modulus ≡ prime job
  pub hosts : job.hosts ≤ 64
  pub tall : job.t ≤ 16384
  pub wide : job.r ≤ 16384
  pub block : block_rows job * block_columns job ≤ most_elements

unfoldable pub shape : Plan → Shape
shape plan = record {
  grid_rows = plan.parameters.m;
  grid_columns = plan.parameters.n;
  block_rows = plan.rows;
  block_columns = plan.columns;
}

abbrev pub place_of : Plan → ℕ → ℕ → ℕ
place_of plan k j = (exponents plan.layout plan.parameters).place k j

-- roots is the product of (X - y) over the points xs
unfoldable pub host_weight : Plan → ℕ → List ℕ → List ℕ → ℕ → ℕ
host_weight plan x xs roots b =
    let q = modulus_prime plan.modulus in
    let n = plan.parameters.n in
    basis_scale q x xs * get_or (quotient q x roots (length xs)) (place_of plan (b / n) (b % n)) 0 % q

unfoldable pub decoding_weights : Plan → List ℕ → List ℕ
decoding_weights plan xs =
    let q = modulus_prime plan.modulus in
    let roots = coefficients q (root_product q xs) (length xs + 1) in
    grid (λ c. host_weight plan (get_or xs c 0) xs roots) (length xs) (block_count (shape plan))

unfoldable pub weighted_table : Plan → List ℕ → List ℕ → List ℕ → List ℕ → List ℕ
weighted_table plan indices xs store table =
    table_after (modulus_prime plan.modulus) (shape plan) indices (decoding_weights plan xs) store plan.columns table

pub record Roomy (plan : Plan) (hosts : ℕ) : Type 0 where
  pub few : hosts ≤ 64
  pub split : 1 ≤ plan.parameters.n
  pub small : block_count (shape plan) ≤ 64
  pub places : (k j : ℕ) → k < plan.parameters.m → j < plan.parameters.n → place_of plan k j < hosts
