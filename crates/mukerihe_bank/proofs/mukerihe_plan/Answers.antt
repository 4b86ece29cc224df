-- `mukerihe_bank::mukerihe_plan` meets its contract.
use mathlib.Core.Path.{◌≡◌, sym, ap, ◌∙◌}
use mathlib.Core.Bool.{false, ◌||◌}
use mathlib.Core.List.{List, [], ◌∷◌}
use Prim.Native.Nat.{ℕ}
use native.Mathlib.Omega.{arith}
use lib.ListN.{length}
use Rattle.algebra.proofs.Tests.{or_left, or_right, equal}
use Rattle.std.specs.Prelude.{Result, Ok, Err}
use Rattle.refusal.specs.declared.Refusal.{Refusal}
use Rattle.refusal.specs.Chain.{first, unless_refused, differs}
use Rattle.plan.specs.declared.Job.{Job}
use Rattle.plan.specs.declared.Plan.{Plan}
use Rattle.plan.specs.Planning.{plan_tests, planned, told, plan_values}
use Rattle.plan.proofs.Outcomes.{plan_told}
use Rattle.plan.specs.Words.{job_of}
use Rattle.mukerihe_bank.specs.Bank.{counted}
use Rattle.mukerihe_bank.proofs.Outcomes.{unmoved, well_counted, miscounted_either, or_was, told_values}
use Rattle.mukerihe_bank.proofs.mukerihe_plan.Goals as goal

pub returns-then-job-values : goal.returns-then-job-values
returns-then-job-values c =
    let a = c.args in
    let told = miscounted_either 13 a.job.now 5 a.values.now _ c.if-job-values.true in record { number = c.number.ensures ∙ sym told; values = unmoved _ _ _ told }

-- the words and the values are so many
counts : (words values : List ℕ) → (differs (length words) 13 || differs (length values) 5) ≡ false → (length words ≡ 13) × (length values ≡ 5)
counts words values e =
    let job = differs (length words) 13 in
    let room = differs (length values) 5 in
    (equal _ _ (or_left job room e), equal _ _ (or_right job room e))

pub job_of-requires : goal.job_of-requires
job_of-requires c = let n = counts c.args.job.now c.args.values.now c.if-job-values.false in omega (arith, n.0)

-- what is told and left, whichever outcome it is, where the counts are right
outcome-is : (words points was : List ℕ) → length words ≡ 13 → length was ≡ 5 → (job : Job) → job ≡ job_of words
    → (r : Result Plan Refusal) → r ≡ planned job points
    → let tests = counted 13 words (counted 5 was (plan_tests (job_of words) points)) in
    ((told r).number ≡ first tests) × (or_was (told r).values was ≡ unless_refused tests (plan_values (job_of words)) was)
unfolding plan_values
outcome-is words points was thirteen five job is r e =
    told_values _ _ _ _ _ (well_counted 13 words thirteen _ ∙ well_counted 5 was five (plan_tests (job_of words) points))
    (ap told (e ∙ ap (λ (job : Job). planned job points) is) ∙ plan_told (job_of words) points)

pub returns-in-Err : goal.returns-in-Err
returns-in-Err c =
    let a = c.args in
    let n = counts a.job.now a.values.now c.if-job-values.false in
    let o = outcome-is a.job.now a.points.now a.values.now n.0 n.1 c.job_of.result c.job_of.ensures (Err c.in-Err.refusal) c.in-Err.ensures in
    record { number = c.number-in-Err.ensures ∙ o.0; values = o.1 }

pub returns-in-Ok : goal.returns-in-Ok
returns-in-Ok c =
    let a = c.args in
    let n = counts a.job.now a.values.now c.if-job-values.false in
    let plan = c.in-Ok.plan in
    let o = outcome-is a.job.now a.points.now a.values.now n.0 n.1 c.job_of.result c.job_of.ensures (Ok plan) c.in-Ok.ensures in
    let values : ℕ → List ℕ = λ n. n ∷ plan.needed ∷ plan.rows ∷ plan.inner ∷ plan.columns ∷ [] in
    record { number = o.0; values = c.copy_from_slice.ensures.after ∙ ap values c.from.ensures ∙ o.1 }
