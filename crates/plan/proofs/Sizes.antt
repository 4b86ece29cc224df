-- The sizes and the places of an accepted job's blocks.
--
--   Sizes, sizes    the cuts make up the sides, and a block has 1 to 4096 rows and columns
--   job_cut         its cuts are from 1 on
--   job_sound       its layout is sound
--   place_below     the place of a table block is below K
use mathlib.Core.Path.{◌≡◌, ap}
use mathlib.Core.Logic.{⊎_elim}
use Prim.Native.Nat.{ℕ, ◌*◌, ◌/◌, ◌%◌, ◌<◌, ◌≤◌}
use native.Mathlib.Nat.{mul-le-mul_left, mul-le-mul_right, div-add-mod}
use native.Mathlib.Omega.{arith}
use Rattle.algebra.proofs.Orders.{le_or_lt}
use Rattle.refusal.proofs.Limits.{Within}
use Rattle.layout.specs.Exponents.{exponents}
use Rattle.layout.specs.Sound.{Cut, Sound}
use Rattle.layout.proofs.Soundness.{sound, place_below as sound-place}
use Rattle.plan.specs.declared.Job.{Job}
use Rattle.plan.specs.Planning.{parameters, block_rows, block_inner, block_columns, layout_of, needed_of}
use Rattle.plan.proofs.Facts.{Fits}

-- a number that its divisor divides: the quotient is not 0, and the two make it
whole : (a b : ℕ) → 1 ≤ a → a % b ≡ 0 → (1 ≤ a / b) × (a ≡ b * (a / b))
whole a b h e = (
  ⊎_elim (λ (l : 1 ≤ a / b). l)
      (λ (z : a / b < 1).
      let none : a / b ≡ 0 = omega arith in
      let no : ⊥ = omega (arith, div-add-mod a b, ap (λ (k : ℕ). b * k) none) in
      absurd no)
      (le_or_lt 1 (a / b)),
  omega (arith, div-add-mod a b),
)

pub record Sizes (job : Job) : Type 0 where
  pub t : job.t ≡ job.m * block_rows job
  pub s : job.s ≡ job.p * block_inner job
  pub r : job.r ≡ job.n * block_columns job
  pub rows : Within 4096 (block_rows job)
  pub inner : Within 4096 (block_inner job)
  pub columns : Within 4096 (block_columns job)

pub sizes : (job : Job) → Fits job → Sizes job
unfolding block_rows block_inner block_columns
sizes job f =
    let t = whole job.t job.m f.ranged.t.low f.divides_t in
    let s = whole job.s job.p f.ranged.s.low f.divides_s in
    let r = whole job.r job.n f.ranged.r.low f.divides_r in
    let rows : block_rows job * 1 ≤ block_rows job * block_inner job = mul-le-mul_left (block_rows job) s.0 in
    let inner : 1 * block_inner job ≤ block_rows job * block_inner job = mul-le-mul_right (block_inner job) t.0 in
    let columns : 1 * block_columns job ≤ block_rows job * block_columns job = mul-le-mul_right (block_columns job) t.0 in
    record {
      t = t.1;
      s = s.1;
      r = r.1;
      rows = record { low = t.0; high = omega (arith, f.block_a) };
      inner = record { low = s.0; high = omega (arith, f.block_a) };
      columns = record { low = r.0; high = omega (arith, f.block_c) };
    }

pub job_cut : (job : Job) → Fits job → Cut (parameters job)
unfolding parameters
job_cut job f = let r = f.ranged in record { m = r.m.low; p = r.p.low; n = r.n.low }

-- the job's layout is sound
pub job_sound : (job : Job) → Fits job → Sound (parameters job) (exponents (layout_of job) (parameters job))
job_sound job f = sound (layout_of job) (parameters job) (job_cut job f)

pub place_below : (job : Job) → Fits job → (k j : ℕ) → k < job.m → j < job.n → (exponents (layout_of job) (parameters job)).place k j < needed_of job
unfolding parameters needed_of
place_below job f = sound-place (parameters job) _ (job_cut job f) (job_sound job f)
