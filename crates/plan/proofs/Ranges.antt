-- What the tests 2 to 4 of a plan tell of its numbers.
--
--   Ranged job    each number is in its range
--   ranged        it is where the tests 2 to 4 pass
use mathlib.Core.Path.{◌≡◌}
use Rattle.refusal.specs.Chain.{first}
use Rattle.refusal.specs.Limits.{sizes_outside}
use Rattle.refusal.proofs.Chains.{first_clear}
use Rattle.refusal.proofs.Limits.{Within, within_both, within_all}
use Rattle.plan.specs.declared.Job.{Job}
use Rattle.plan.specs.Planning.{range_tests}

pub record Ranged (job : Job) : Type 0 where
  pub t : Within 16384 job.t
  pub s : Within 16384 job.s
  pub r : Within 16384 job.r
  pub m : Within 8 job.m
  pub p : Within 8 job.p
  pub n : Within 8 job.n
  pub xa : Within 16 job.xa
  pub xb : Within 16 job.xb

pub ranged : (job : Job) → first (range_tests job) ≡ 0 → Ranged job
unfolding range_tests sizes_outside
ranged job e =
    let sizes = first_clear _ 1 _ e in
    let cuts = first_clear _ 2 _ sizes.1 in
    let groups = first_clear _ 3 _ cuts.1 in
    let side = within_all 16384 job.t job.s job.r sizes.0 in
    let cut = within_all 8 job.m job.p job.n cuts.0 in
    let group = within_both 16 job.xa job.xb groups.0 in
    record { t = side.0; s = side.1; r = side.2; m = cut.0; p = cut.1; n = cut.2; xa = group.0; xb = group.1 }
