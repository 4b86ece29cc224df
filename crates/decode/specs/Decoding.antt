-- Decoding (01, "Exponents" and "What is turned down", Decode).
-- k and j are a table block's row and column in the grid of blocks, i and v an element's in the block; a host's index counts
-- from 0.
--
--   answer_entry job store h i v == the element at i, v of the answer of the host with index h
--   chosen job heard            == the indices of the K lowest-numbered hosts heard
--   table_entry .. k j i v       == the element at i, v of C(k,j): the coefficient, at the place of C(k,j), of the polynomial
--                                  through the chosen hosts' points and their answers' elements at i, v
--   blocks f m rows n columns   == m by n blocks of rows by columns as one matrix, row by row: f k j i v is an element
--   table_of                     == the decoded table
--   table_length job             == t times r
--   heard_below q size heard store n == the blocks of the hosts heard, of the first n, have elements below q
--   table_tests                  == the tests that are decoding's own, 21, 13, 24 and 14
--   decode_tests                 == the tests of decoding: the plan's, and then its own
--   table_after                  == what the table then holds
use Rattle.std.specs.Prelude.{Bool, true, not, ◌&&◌, ◌||◌, List, [], ◌∷◌, ◌++◌, map, ℕ, zero, suc, ◌+◌, ◌*◌, ltb, length, get_or}
use Rattle.std.specs.Int.Count.{ones}
use Rattle.algebra.specs.Lists.{stack, grid, entry, all_below}
use Rattle.algebra.specs.Polynomials.{coefficient}
use Rattle.refusal.specs.Chain.{Test, unless_refused, differs}
use Rattle.layout.specs.Exponents.{exponents}
use Rattle.plan.specs.declared.Job.{Job}
use Rattle.plan.specs.Planning.{prime, parameters, layout_of, needed_of, block_rows, block_columns, plan_tests}
use Rattle.arrival_heard.specs.Heard.{is_heard, some_above, lowest}
use Rattle.arrival.specs.Arriving.{answer_length, store_length, block_at}

unfoldable pub answer_entry : Job → List ℕ → ℕ → ℕ → ℕ → ℕ
answer_entry job store h i v = entry (block_columns job) store (h * block_rows job + i) v

unfoldable pub chosen : Job → ℕ → List ℕ
chosen job heard = lowest (needed_of job) heard job.hosts

unfoldable pub table_entry : Job → List ℕ → ℕ → List ℕ → ℕ → ℕ → ℕ → ℕ → ℕ
table_entry job points heard store k j i v =
    let hosts = chosen job heard in
    let place = (exponents (layout_of job) (parameters job)).place k j in
    coefficient (prime job) (map (λ h. get_or points h 0) hosts) (map (λ h. answer_entry job store h i v) hosts) place

unfoldable pub blocks : (ℕ → ℕ → ℕ → ℕ → ℕ) → ℕ → ℕ → ℕ → ℕ → List ℕ
blocks f m rows n columns = stack (λ k. stack (λ i. grid (λ j v. f k j i v) n columns) rows) m

unfoldable pub table_of : Job → List ℕ → ℕ → List ℕ → List ℕ
table_of job points heard store =
    blocks (table_entry job points heard store) job.m (block_rows job) job.n (block_columns job)

unfoldable pub table_length : Job → ℕ
table_length job = job.t * job.r

unfoldable pub heard_below : ℕ → ℕ → ℕ → List ℕ → ℕ → Bool
heard_below q size heard store zero = true
heard_below q size heard store (suc n) =
    heard_below q size heard store n && (not (is_heard heard n) || all_below q (block_at size store n))

-- room is the table's length
unfoldable pub table_tests : Job → ℕ → List ℕ → ℕ → List Test
table_tests job heard store room =
    (some_above job.hosts heard, 21)
    ∷ (differs (length store) (store_length job) || differs room (table_length job), 13)
    ∷ (ltb (ones heard) (needed_of job), 24)
    ∷ (not (heard_below (prime job) (answer_length job) heard store job.hosts), 14)
    ∷ []

unfoldable pub decode_tests : Job → List ℕ → ℕ → List ℕ → ℕ → List Test
decode_tests job points heard store room = plan_tests job points ++ table_tests job heard store room

unfoldable pub table_after : Job → List ℕ → ℕ → List ℕ → List ℕ → List ℕ
table_after job points heard store table =
    unless_refused (decode_tests job points heard store (length table)) (table_of job points heard store) table
