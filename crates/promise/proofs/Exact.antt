-- Exactness: where the answers of enough hosts stand in the store, the decoded table is A times B.
--
--   answer_block x h ma mb   the elements of the true product of the host at place h
--   blocks_grid             a table that is made block by block is a matrix
--   exact                   exactness, for a job's numbers, points and matrices, whatever the masks
use mathlib.Core.Path.{◌≡◌, sym, ap, ap₂, ◌∙◌}
use mathlib.Core.Bool.{true}
use mathlib.Core.List.{List, map}
use Prim.Native.Nat.{ℕ, suc, ◌+◌, ◌-◌, ◌*◌, ◌%◌, ◌<◌, ◌≤◌}
use native.Mathlib.Omega.{arith}
use lib.ListN.{length, get_or, drop, length-map}
use lib.Seq.{ext_get_or, get_or-take, get_or-drop}
use Rattle.algebra.specs.Lists.{tab, stack, grid, entry}
use Rattle.algebra.specs.Sets.{size}
use Rattle.algebra.specs.Polynomials.{coefficient}
use Rattle.algebra.proofs.Orders.{row_end}
use Rattle.algebra.proofs.Lists.{get_d_map}
use Rattle.algebra.proofs.Grids.{grid_cong}
use Rattle.algebra.proofs.Stacks.{stack_cong, stack_tab, grid_tab, stack_grid}
use Rattle.algebra.proofs.Points.{points_at}
use Rattle.layout.specs.Exponents.{Exponents, exponents}
use Rattle.plan.specs.declared.Job.{Job}
use Rattle.plan.specs.Planning.{prime, parameters, layout_of, needed_of, block_rows, block_inner, block_columns}
use Rattle.plan.proofs.Facts.{Facts, facts}
use Rattle.plan.proofs.Sizes.{sizes}
use Rattle.share_side.specs.declared.Matrix.TheVariants.{A, B}
use Rattle.share_side.specs.Sides.{side}
use Rattle.share.specs.Sharing.{point, host_share}
use Rattle.product.specs.Product.{product_entry, product_of}
use Rattle.arrival_heard.specs.Heard.{is_heard}
use Rattle.arrival.specs.Arriving.{answer_length, block_at}
use Rattle.decode.specs.Decoding.{answer_entry, chosen, table_entry, blocks, table_of}
use Rattle.decode.proofs.Chosen.{Chosen, chosen_hosts}
use Rattle.promise.specs.Demand3.{Task, Accepted}
use Rattle.promise.specs.Layouts.{answer_of}
use Rattle.promise.proofs.Layouts.{job_shown}

-- ---- blocks as one matrix

pub blocks_grid : (f : ℕ → ℕ → ℕ → ℕ → ℕ) (h : ℕ → ℕ → ℕ) (m rows n columns : ℕ)
    → ((k j i v : ℕ) → k < m → j < n → i < rows → v < columns → f k j i v ≡ h (k * rows + i) (j * columns + v))
    → blocks f m rows n columns ≡ grid h (m * rows) (n * columns)
unfolding blocks
blocks_grid f h m rows n columns e =
    stack_cong (λ k. stack (λ i. grid (λ j v. f k j i v) n columns) rows) (λ k. grid (λ i. h (k * rows + i)) rows (n * columns)) m
    (λ k hk.
    stack_cong (λ i. grid (λ j v. f k j i v) n columns) (λ i. tab (h (k * rows + i)) (n * columns)) rows
    (λ i hi.
    grid_cong (λ j v. f k j i v) (λ j v. h (k * rows + i) (j * columns + v)) n columns (λ j v hj hv. e k j i v hk hj hi hv)
    ∙ grid_tab (h (k * rows + i)) n columns)
    ∙ stack_tab (λ i. h (k * rows + i)) rows (n * columns))
    ∙ stack_grid h m rows (n * columns)

-- ---- the table

-- an element of the answer at place h, in the store and in its block
block_entry : (job : Job) (store : List ℕ) (h i v : ℕ) → i < block_rows job → v < block_columns job
    → answer_entry job store h i v ≡ get_or (block_at (answer_length job) store h) (i * block_columns job + v) 0
unfolding answer_entry entry block_at answer_length
block_entry job store h i v hi hv =
    let size : ℕ = block_rows job * block_columns job in
    let e : ℕ = i * block_columns job + v in
    let inside : e < size = omega (arith, row_end (block_columns job) hi) in
    let place : (h * block_rows job + i) * block_columns job + v ≡ h * size + e = omega arith in
    ap (λ (k : ℕ). get_or store k 0) place ∙ sym (get_or-take size (drop (h * size) store) e 0 inside ∙ get_or-drop (h * size) store e 0)

unfoldable pub answer_block : Task → ℕ → List ℕ → List ℕ → List ℕ
answer_block x h ma mb =
    let job = x.job in
    product_of (prime job) (block_rows job) (block_inner job) (block_columns job)
    (host_share A job x.points (suc h) x.a ma)
    (host_share B job x.points (suc h) x.b mb)

module _ (x : Task) (f : Facts x.job x.points) where
  abbrev job : Job
  job = x.job

  abbrev e : Exponents
  e = exponents (layout_of job) (parameters job)

  -- the product with its sizes as the cuts give them
  cuts : List ℕ
  cuts = product_of (prime job) (job.m * block_rows job) (job.p * block_inner job) (job.n * block_columns job) x.a x.b

  cuts_whole : cuts ≡ product_of (prime job) job.t job.s job.r x.a x.b
  unfolding cuts
  cuts_whole =
      let size = sizes job f.fits in
      ap (λ (n : ℕ). product_of (prime job) n (job.p * block_inner job) (job.n * block_columns job) x.a x.b) (sym size.t)
      ∙ ap₂ (λ (n o : ℕ). product_of (prime job) job.t n o x.a x.b) (sym size.s) (sym size.r)

  module _ (ma mb : List ℕ) (heard : ℕ) (store : List ℕ) (c : Chosen job x.points heard)
      (answers : (h : ℕ) → h < job.hosts → is_heard heard h ≡ true → block_at (answer_length job) store h ≡ answer_block x h ma mb) where
    -- the points of the hosts used
    used : List ℕ
    used = points_at x.points (chosen job heard)

    count : length used ≡ e.needed
    unfolding used needed_of
    count = length-map (chosen job heard) (λ h. get_or x.points h 0) ∙ c.count

    -- the element at i, v of the true answer at a point
    answer_at : ℕ → ℕ → ℕ → ℕ
    answer_at i v point =
        get_or (answer_of (prime job) (parameters job) (block_rows job) (block_inner job) (block_columns job) e point x.a ma x.b mb) (i * block_columns job + v) 0

    answer_value : (h i v : ℕ) → h < job.hosts → is_heard heard h ≡ true → i < block_rows job → v < block_columns job
        → answer_entry job store h i v ≡ answer_at i v (get_or x.points h 0)
    unfolding answer_at answer_block host_share point answer_of side
    answer_value h i v l t hi hv =
        let same : suc h - 1 ≡ h = omega arith in
        block_entry job store h i v hi hv
        ∙ ap (λ (ws : List ℕ). get_or ws (i * block_columns job + v) 0) (answers h l t)
        ∙ ap (λ (n : ℕ). answer_at i v (get_or x.points n 0)) same

    values : (i v : ℕ) → i < block_rows job → v < block_columns job
        → map (λ h. answer_entry job store h i v) (chosen job heard) ≡ map (answer_at i v) used
    unfolding used
    values i v hi hv =
        let hosts : List ℕ = chosen job heard in
        let stored : ℕ → ℕ = λ h. answer_entry job store h i v in
        let long = length-map hosts (λ h. get_or x.points h 0) in
        ext_get_or 0 (map stored hosts) (map (answer_at i v) used) (length-map hosts stored ∙ sym (length-map used (answer_at i v) ∙ long))
        (λ n l.
        let h : n < length hosts = omega (arith, length-map hosts stored) in
        get_d_map stored hosts n h
        ∙ answer_value (get_or hosts n 0) i v (c.within n h) (c.are_heard n h) hi hv
        ∙ sym (get_d_map (answer_at i v) used n (omega (arith, long)) ∙ ap (answer_at i v) (get_d_map (λ h. get_or x.points h 0) hosts n h)))

    table : table_of job x.points heard store ≡ cuts
    unfolding table_of table_entry cuts product_of parameters used answer_at
    table =
        blocks_grid (table_entry job x.points heard store)
        (λ u w. product_entry (job.p * block_inner job) (job.n * block_columns job) x.a x.b u w % prime job)
        job.m (block_rows job) job.n (block_columns job)
        (λ k j i v hk hj hi hv.
        ap (λ (ys : List ℕ). coefficient (prime job) used ys (e.place k j)) (values i v hi hv)
        ∙ (job_shown job f.fits).decodes used c.below c.distinct count x.a ma x.b mb k j i v hk hj hi hv)

pub exact : (x : Task) → Accepted x → (ma mb : List ℕ) (heard : ℕ) (store : List ℕ)
    → needed_of x.job ≤ size (is_heard heard) x.job.hosts
    → ((h : ℕ) → h < x.job.hosts → is_heard heard h ≡ true → block_at (answer_length x.job) store h ≡ answer_block x h ma mb)
    → table_of x.job x.points heard store
    ≡ product_of (prime x.job) x.job.t x.job.s x.job.r x.a x.b
exact x accepted ma mb heard store enough answers =
    let f : Facts x.job x.points = facts x.job x.points accepted.planned in
    table x f ma mb heard store (chosen_hosts x.job x.points f heard enough) answers ∙ cuts_whole x f
