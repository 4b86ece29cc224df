-- Planning (01, "The job" and "What is turned down", Plan; 02, U7).
--
--   parameters job       == the job's cuts and group sizes
--   prime job            == q, the prime of the job's modulus number
--   modulus_of job        == the modulus of the job's modulus number
--   block_rows, block_inner, block_columns == the sizes of blocks: an A block is rows by inner, a B block inner by columns,
--                           an answer rows by columns
--   layout_of, needed_of   == the layout that the job has, and K, its number of answers needed
--   range_tests           == the tests 2 to 4, of each number by itself
--   in_window job minute  == an arrival at that minute is inside the window
--   window_test job       == opening not before closing: the test of 29
--   fit_tests             == the tests 5 to 8, and 29, of the numbers together
--   point_tests_at q xs i  == the tests of point i, 10 and 11
--   all_point_tests q xs n == those of the first n points, point by point
--   point_tests           == the tests of the points, 9 to 11
--   plan_tests            == the tests of a plan: 1 to 8, 29, 9 to 11
--   plan_of               == the plan of an accepted job
--   planned              == what planning returns
--   told                 == what that says on paper: its number, and the values of an accepted job
--   plan_values           == these values: the number of its layout, K, and rows, inner and columns of its blocks
--   table_for job         == the job's eleven public numbers, without its window
--   table_job table       == the job of a table, with a window that no test of a plan sees
--   unwindowed job       == the same job with that window
use Rattle.std.specs.Prelude.{Bool, false, ◌&&◌, ◌||◌, List, [], ◌∷◌, ◌++◌, ℕ, zero, suc, ◌/◌, ◌%◌, leb, ltb, eqb, length, get_or, take, Result, Ok, Err}
use Rattle.refusal.specs.declared.Refusal.{Refusal}
use Rattle.refusal.specs.Numbers.{number as refusal_number}
use Rattle.refusal.specs.Chain.{Test, answered, Told, done, refused, outside, differs}
use Rattle.refusal.specs.Limits.{any_outside, sizes_outside, over_block}
use Rattle.field.specs.declared.Modulus.{Modulus}
use Rattle.field.specs.Modulus.{modulus, named, no_modulus, modulus_in}
use Rattle.layout.specs.declared.Parameters.{Parameters}
use Rattle.layout.specs.declared.Layout.{Layout}
use Rattle.layout.specs.Exponents.{exponents, number, choice}
use Rattle.plan.specs.declared.Job.{Job}
use Rattle.plan.specs.declared.Table.{Table}
use Rattle.plan.specs.declared.Plan.{Plan}

unfoldable pub parameters : Job → Parameters
parameters job = record { m = job.m; p = job.p; n = job.n; xa = job.xa; xb = job.xb }

unfoldable pub prime : Job → ℕ
prime job = modulus job.modulus

unfoldable pub modulus_of : Job → Modulus
modulus_of job = modulus_in (named job.modulus)

unfoldable pub block_rows : Job → ℕ
block_rows job = job.t / job.m

unfoldable pub block_inner : Job → ℕ
block_inner job = job.s / job.p

unfoldable pub block_columns : Job → ℕ
block_columns job = job.r / job.n

unfoldable pub layout_of : Job → Layout
layout_of job = choice (parameters job)

unfoldable pub needed_of : Job → ℕ
needed_of job = (exponents (layout_of job) (parameters job)).needed

-- t, s or r is not 1..16384; m, p or n is not 1..8; X_A or X_B is not 1..16
unfoldable pub range_tests : Job → List Test
range_tests job =
    (sizes_outside job.t job.s job.r, 2)
    ∷ (any_outside 8 job.m job.p job.n, 3)
    ∷ (outside 1 16 job.xa || outside 1 16 job.xb, 4) ∷ []

-- "taken from the opening minute on and up to the one before the closing minute" (02, U7)
unfoldable pub in_window : Job → ℕ → Bool
in_window job minute = leb job.opening minute && ltb minute job.closing

-- "29, opening not before closing" (02, U7)
unfoldable pub window_test : Job → Bool
window_test job = leb job.closing job.opening

-- m does not divide t, or p s, or n r; a block is too large; N is not 1..64, or over q - 1; K is over N; the window, "in planning
-- between 8 and 9"
unfoldable pub fit_tests : Job → List Test
fit_tests job =
    (differs (job.t % job.m) 0 || differs (job.s % job.p) 0 || differs (job.r % job.n) 0, 5)
    ∷ (over_block (block_rows job) (block_inner job) (block_columns job), 6)
    ∷ (outside 1 64 job.hosts || leb (prime job) job.hosts, 7)
    ∷ (ltb job.hosts (needed_of job), 8)
    ∷ (window_test job, 29) ∷ []

-- x stands in xs
unfoldable pub member : ℕ → List ℕ → Bool
member x [] = false
member x (y ∷ ys) = eqb x y || member x ys

-- 10 and 11 of the point at i: it is 0 or not below q; it equals an earlier one
unfoldable pub point_tests_at : ℕ → List ℕ → ℕ → List Test
point_tests_at q points i =
    let x = get_or points i 0 in
    (eqb x 0 || leb q x, 10) ∷ (member x (take i points), 11) ∷ []

-- point by point
unfoldable pub all_point_tests : ℕ → List ℕ → ℕ → List Test
all_point_tests q points zero = []
all_point_tests q points (suc n) = all_point_tests q points n ++ point_tests_at q points n

unfoldable pub point_tests : ℕ → ℕ → List ℕ → List Test
point_tests q hosts points = (differs (length points) hosts, 9) ∷ all_point_tests q points (length points)

unfoldable pub plan_tests : Job → List ℕ → List Test
plan_tests job points = (no_modulus job.modulus, 1) ∷ (range_tests job ++ (fit_tests job ++ point_tests (prime job) job.hosts points))

unfoldable pub plan_of : Job → Plan
plan_of job = record {
  modulus = modulus_of job;
  layout = layout_of job;
  parameters = parameters job;
  rows = block_rows job;
  inner = block_inner job;
  columns = block_columns job;
  needed = needed_of job;
}

unfoldable pub planned : Job → List ℕ → Result Plan Refusal
planned job points = answered (plan_tests job points) (plan_of job)

unfoldable pub plan_values : Job → List ℕ
plan_values job = number (layout_of job) ∷ needed_of job ∷ block_rows job ∷ block_inner job ∷ block_columns job ∷ []

abbrev pub told : Result Plan Refusal → Told ℕ
told (Ok plan) = done (number plan.layout ∷ plan.needed ∷ plan.rows ∷ plan.inner ∷ plan.columns ∷ [])
told (Err r) = refused (refusal_number r)

unfoldable pub table_for : Job → Table
table_for job = record {
  modulus = job.modulus;
  t = job.t;
  s = job.s;
  r = job.r;
  m = job.m;
  p = job.p;
  n = job.n;
  xa = job.xa;
  xb = job.xb;
  hosts = job.hosts;
  number = job.number;
}

-- the minute 0 alone is inside
unfoldable pub table_job : Table → Job
table_job table = record {
  modulus = table.modulus;
  t = table.t;
  s = table.s;
  r = table.r;
  m = table.m;
  p = table.p;
  n = table.n;
  xa = table.xa;
  xb = table.xb;
  hosts = table.hosts;
  number = table.number;
  opening = 0;
  closing = 1;
}

unfoldable pub unwindowed : Job → Job
unwindowed job = table_job (table_for job)
