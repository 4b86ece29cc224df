-- The privacy half of demand 3: a group of at most X_A hosts gets byte-equal A messages, one of at most X_B byte-equal B messages.
--
--   same_numbers      two jobs with the same public numbers are the same but for their windows
--   largest_count     there are as many masks as hosts in the largest group
--   hidden            the masks of the two jobs match one to one
use mathlib.Core.Path.{◌≡◌, refl, sym, ap, ap₂, ◌∙◌, subst}
use mathlib.Core.Bool.{Bool, true}
use mathlib.Core.List.{List, []}
use Prim.Native.Nat.{ℕ, suc, ◌-◌, ◌<◌, ◌≤◌}
use native.Mathlib.Omega.{arith}
use lib.ListN.{length, get_or, length-map}
use Rattle.algebra.specs.Lists.{AllBelow}
use Rattle.algebra.specs.Sets.{members, size}
use Rattle.algebra.proofs.Lists.{get_d_map}
use Rattle.algebra.proofs.Sets.{members_has, members_below, members_distinct}
use Rattle.algebra.proofs.Points.{points_at, points_each, points_apart}
use Rattle.layout.specs.Exponents.{Exponents, exponents}
use Rattle.plan.specs.declared.Job.{Job}
use Rattle.plan.specs.Planning.{prime, parameters, block_rows, block_inner, block_columns, layout_of, table_for, table_job, unwindowed}
use Rattle.plan.proofs.Facts.{Facts, facts}
use Rattle.share_side.specs.declared.Matrix.{Matrix}
use Rattle.share_side.specs.declared.Matrix.TheVariants.{A, B}
use Rattle.share_side.specs.Sides.{side}
use Rattle.share.specs.Sharing.{share_of, point, host_share}
use Rattle.message.specs.Format.{message_of}
use Rattle.promise.specs.Demand3.{Task, SamePublic, Masks, Privacy, public_numbers, largest, matrix, header_for, share_header, share_for, share_message}
use Rattle.promise.specs.Layouts.{Points, MasksFor, Matched}
use Rattle.promise.proofs.Layouts.{job_shown}

same_numbers : (x y : Task) → SamePublic x y → unwindowed x.job ≡ unwindowed y.job
unfolding public_numbers unwindowed table_job table_for
same_numbers x y same =
    let all = same.numbers in
    let at : (k : ℕ) → get_or (public_numbers x) k 0 ≡ get_or (public_numbers y) k 0 = λ k. ap (λ (l : List ℕ). get_or l k 0) all in
    λ i. record {
      modulus = at 0 i;
      t = at 1 i;
      s = at 2 i;
      r = at 3 i;
      m = at 4 i;
      p = at 5 i;
      n = at 6 i;
      xa = at 7 i;
      xb = at 8 i;
      hosts = at 9 i;
      number = at 10 i;
      opening = 0;
      closing = 1;
    }

-- the exponents of the job's layout
layout_data : Job → Exponents
layout_data job = exponents (layout_of job) (parameters job)

largest_count : (m : Matrix) (x : Task) → largest m x ≡ (side m x.job).mask_count
unfolding largest side parameters
largest_count A x = refl
largest_count B x = refl

-- ---- one job, two matrices

module _ (points : List ℕ) (g : ℕ → Bool) (n : ℕ) where
  -- the points of a group of the hosts whose indices are below n
  group_points : List ℕ
  group_points = points_at points (members g n)

  length_group : length group_points ≡ size g n
  unfolding group_points size
  length_group = length-map (members g n) (λ h. get_or points h 0)

  -- a host of the group has its point among them
  group_has : (i : ℕ) → i < n → g i ≡ true → (k : ℕ) × (k < length group_points) × (get_or group_points k 0 ≡ point points (suc i))
  unfolding group_points size point
  group_has i h t =
      let at = members_has g n i h t in
      let own : get_or (members g n) at.0 0 ≡ suc i - 1 = omega (arith, at.2) in
      (at.0, omega (arith, at.1, length_group), get_d_map (λ h. get_or points h 0) (members g n) at.0 at.1 ∙ ap (λ (k : ℕ). get_or points k 0) own)

module _ (m : Matrix) (job : Job) (points : List ℕ) (known : Facts job points) (g : ℕ → Bool)
    (small : size g job.hosts ≤ (side m job).mask_count) where
  group_points_lem : Points (prime job) (group_points points g job.hosts)
  unfolding group_points
  group_points_lem =
      let indices = members g job.hosts in
      let below : AllBelow (length points) indices = λ k h. omega (arith, known.points_length, members_below g job.hosts k h) in
      record {
        below = points_each points indices below (λ x. x < prime job) known.points_below;
        nonzero = points_each points indices below (λ x. 0 < x) known.points_pos;
        distinct = points_apart points indices below known.points_distinct (members_distinct g job.hosts);
      }

  module _ (xs ys : List ℕ) where
    match : Matched (prime job) (layout_data job) (side m job) (group_points points g job.hosts) xs ys
    unfolding side layout_data
    match =
        (job_shown job known.fits).hides m (group_points points g job.hosts) group_points_lem (omega (arith, length_group points g job.hosts)) xs ys

    same_host : (ms : List ℕ) (i : ℕ) → i < job.hosts → g i ≡ true
        → host_share m job points (suc i) xs ms ≡ host_share m job points (suc i) ys (match.partner ms)
    unfolding host_share layout_data
    same_host ms i h t =
        let at = group_has points g job.hosts i h t in
        let share : ℕ → List ℕ → List ℕ → List ℕ = share_of (prime job) (layout_data job) (side m job) in
        subst (λ (x : ℕ). share x xs ms ≡ share x ys (match.partner ms)) at.2 (match.same ms at.0 at.1)

-- ---- two jobs

-- a window plays no part in headers ..
same_header : (m : Matrix) (x y : Task) (i : ℕ) → unwindowed x.job ≡ unwindowed y.job → share_header m x i ≡ share_header m y i
unfolding unwindowed table_job table_for share_header header_for side parameters block_rows block_inner block_columns
same_header m x y i e = ap (λ (job : Job). share_header m (record { job = job; points = []; a = []; b = [] }) i) e

-- .. in masks: those for a matrix are those of its side ..
masks_told : (m : Matrix) (x : Task) (job : Job) (ms : List ℕ) → unwindowed x.job ≡ unwindowed job → Masks m x ms → MasksFor (prime job) (side m job) ms
unfolding unwindowed table_job table_for prime side parameters block_rows block_inner block_columns
masks_told m x job ms e h = subst (λ (job : Job). MasksFor (prime job) (side m job) ms) e (h.exact, h.below)

masks_made : (m : Matrix) (x : Task) (job : Job) (ms : List ℕ) → unwindowed job ≡ unwindowed x.job → MasksFor (prime job) (side m job) ms → Masks m x ms
unfolding unwindowed table_job table_for prime side parameters block_rows block_inner block_columns
masks_made m x job ms e h =
    let own = subst (λ (job : Job). MasksFor (prime job) (side m job) ms) e h in
    record { exact = own.0; below = own.1 }

-- .. and in shares
same_share : (m : Matrix) (job other : Job) (points points' : List ℕ) (host : ℕ) (xs ms : List ℕ) → unwindowed job ≡ unwindowed other → points ≡ points'
    → host_share m job points host xs ms ≡ host_share m other points' host xs ms
unfolding unwindowed table_job table_for host_share prime layout_of side parameters block_rows block_inner block_columns
same_share m job other points points' host xs ms e same = ap₂ (λ (j : Job) (ps : List ℕ). host_share m j ps host xs ms) e same

pub hidden : Privacy
unfolding share_message share_for
hidden m x y ax ay same g small =
    let job : Job = x.job in
    let jobs = same_numbers x y same in
    let known = facts job x.points ax.planned in
    let few : size g job.hosts ≤ (side m job).mask_count = omega (arith, largest_count m x) in
    let pair = match m job x.points known g few (matrix m x) (matrix m y) in
    record {
      partner = pair.partner;
      back = pair.back;
      partner_masks = λ ms h. masks_made m y job (pair.partner ms) jobs (pair.partner_masks ms);
      back_masks = λ ms h. masks_made m x job (pair.back ms) refl (pair.back_masks ms);
      back_partner = λ ms h. pair.back_partner ms (masks_told m x job ms refl h);
      partner_back = λ ms h. pair.partner_back ms (masks_told m y job ms (sym jobs) h);
      same_bytes = λ ms h i l t.
          ap₂ message_of (same_header m x y (suc i) jobs)
          (same_host m job x.points known g few (matrix m x) (matrix m y) ms i l t
          ∙ same_share m job y.job x.points y.points (suc i) (matrix m y) (pair.partner ms) jobs same.points);
    }
