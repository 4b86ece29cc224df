-- Planning and windows (02, U7).
--
--   window_unseen    planning answers the same in every window that opens before it closes
--   table_untold     a table's job has such a window: planning does not tell 29
use mathlib.Core.Path.{◌≡◌, refl, sym, ap, ◌∙◌}
use mathlib.Core.Bool.{Bool, false}
use mathlib.Core.List.{List, [], ◌∷◌, ◌++◌, append-nil}
use Prim.Native.Nat.{ℕ}
use native.Mathlib.Nat.{suc-ne-zero}
use lib.ListN.{length, take}
use Rattle.std.specs.Prelude.{Result, Err}
use Rattle.refusal.specs.declared.Refusal.{Refusal}
use Rattle.refusal.specs.Chain.{Test, first, except, answered, differs}
use Rattle.refusal.proofs.Except.{except_untold}
use Rattle.field.specs.Modulus.{no_modulus}
use Rattle.plan.specs.declared.Job.{Job}
use Rattle.plan.specs.declared.Table.{Table}
use Rattle.plan.specs.declared.Plan.{Plan}
use Rattle.plan.specs.Planning.{parameters, prime, modulus_of, block_rows, block_inner, block_columns, layout_of, needed_of, plan_of}
use Rattle.plan.specs.Planning.{range_tests, window_test, fit_tests, point_tests_at, point_tests, plan_tests, planned, table_for, table_job, unwindowed}
use Rattle.plan.proofs.Points.{points_except}
use Rattle.plan.proofs.Then.{then_refused}

-- what 29 tells is all that planning knows of a window
pub window_unseen : (job : Job) (points : List ℕ) → window_test job ≡ false → planned job points ≡ planned (unwindowed job) points
unfolding planned plan_tests range_tests fit_tests window_test unwindowed table_job table_for plan_of prime modulus_of parameters layout_of needed_of block_rows block_inner block_columns
window_unseen job points e = ap by_window e
  where
    -- what planning answers where 29 tells t
    by_window : Bool → Result Plan Refusal
    by_window t =
        answered ((no_modulus job.modulus, 1) ∷ (range_tests job ++ (take 4 (fit_tests job) ++ ((t, 29) ∷ point_tests (prime job) job.hosts points))))
        (plan_of job)

module _ (table : Table) (points : List ℕ) where
  -- the tests of the job but that of its window
  others : List Test → List Test
  others rows =
      let job = table_job table in
      (no_modulus job.modulus, 1) ∷ (range_tests job ++ (take 4 (fit_tests job) ++ ((differs (length points) job.hosts, 9) ∷ rows)))

  told_others : first (plan_tests (table_job table) points) ≡ first (except 29 (plan_tests (table_job table) points))
  unfolding plan_tests range_tests fit_tests window_test point_tests_at point_tests table_job first except others
  told_others =
      let job = table_job table in
      ap (λ (rows : List Test). first (others rows)) (sym (points_except (prime job) points 29 (λ i. refl) (length points)))

  pub table_untold : planned (table_job table) points ≡ Err Refusal.Window → ⊥
  table_untold e =
      let job = table_job table in
      let told = (then_refused job points [] e).0 in
      except_untold 29 (suc-ne-zero 28) (plan_tests job points) (sym told_others ∙ sym (ap first (append-nil (plan_tests job points))) ∙ told)
