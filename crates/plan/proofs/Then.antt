-- Calls that make the plan's tests again first, and then their own.
--
--   plan_numbered    every row of the plan's tests has a number
--   plan_except      none has the number 21 or 23
--   then_refused     planning refuses: so does the call, with the same number
--   then_own         planning accepts: the call's own tests decide
--   own_prime        the prime of an accepted job's modulus is that of its modulus number
use mathlib.Core.Path.{◌≡◌, refl, sym, ap, ◌∙◌}
use mathlib.Core.Bool.{false, true≢false}
use mathlib.Core.List.{List, ◌∷◌, ◌++◌}
use Prim.Native.Nat.{ℕ}
use lib.Dec.{T}
use lib.ListN.{length}
use Rattle.std.specs.Prelude.{Option, Some, None, Err}
use Rattle.refusal.specs.declared.Refusal.{Refusal}
use Rattle.refusal.specs.Numbers.{number as refusal_number, refusal_of, sheet}
use Rattle.refusal.specs.Chain.{Test, first, except, differs}
use Rattle.refusal.proofs.Chains.{numbered, first_numbered, first_append, first_append_hit}
use Rattle.refusal.proofs.Answered.{is_refused}
use Rattle.field.specs.declared.Modulus.{Modulus}
use Rattle.field.specs.Modulus.{modulus, no_modulus, named, modulus_in}
use Rattle.field.specs.Modulus.{prime as modulus_prime}
use Rattle.field.proofs.Moduli.{none_named}
use Rattle.field.proofs.Moduli.{known as moduli_known}
use Rattle.plan.specs.declared.Job.{Job}
use Rattle.plan.specs.Planning.{prime, modulus_of, plan_of, range_tests, fit_tests, point_tests_at, point_tests, plan_tests, planned}
use Rattle.plan.proofs.Points.{points_numbered, points_except}

pub plan_numbered : (job : Job) (points : List ℕ) → T (numbered (plan_tests job points))
unfolding plan_tests range_tests fit_tests point_tests numbered refusal_of sheet
plan_numbered job points = points_numbered (prime job) points _

pub plan_except : (job : Job) (points : List ℕ)
    → (except 21 (plan_tests job points) ≡ plan_tests job points) × (except 23 (plan_tests job points) ≡ plan_tests job points)
unfolding plan_tests range_tests fit_tests point_tests_at point_tests except
plan_except job points =
    let whole : List Test → List Test
    = λ l. (no_modulus job.modulus, 1) ∷ (range_tests job ++ (fit_tests job ++ ((differs (length points) job.hosts, 9) ∷ l))) in (
      ap whole (points_except (prime job) points 21 (λ i. refl) (length points)),
      ap whole (points_except (prime job) points 23 (λ i. refl) (length points)),
    )

module _ (job : Job) (points : List ℕ) (rows : List Test) where
  pub then_refused : {r : Refusal} → planned job points ≡ Err r → (first (plan_tests job points ++ rows) ≡ refusal_number r) × (refusal_number r ≡ 0 → ⊥)
  unfolding planned
  then_refused {r} e =
      let told = is_refused (plan_tests job points) (plan_of job) r (sym e) in
      let same : refusal_number r ≡ first (plan_tests job points)
      = ap refusal_number told.1 ∙ first_numbered (plan_tests job points) (plan_numbered job points) told.0 in
      let ne : refusal_number r ≡ 0 → ⊥ = λ z. told.0 (sym same ∙ z) in
      (first_append_hit (plan_tests job points) rows (refusal_number r) ne (sym same), ne)

  pub then_own : first (plan_tests job points) ≡ 0 → first (plan_tests job points ++ rows) ≡ first rows
  then_own e = first_append (plan_tests job points) rows (plan_numbered job points) e

pub own_prime : (job : Job) → no_modulus job.modulus ≡ false → modulus_prime (modulus_of job) ≡ prime job
unfolding modulus_of prime
own_prime job e = go (named job.modulus) refl
  where
    go : (x : Option Modulus) → named job.modulus ≡ x → modulus_prime (modulus_in x) ≡ modulus job.modulus
    go (Some m) is = sym (moduli_known job.modulus is refl).is
    go None is = absurd (true≢false (sym (none_named job.modulus is) ∙ e))
