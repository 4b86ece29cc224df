-- `mukerihe_bank::share_of` meets its contract.
use mathlib.Core.Path.{ap, ◌∙◌}
use lib.ListN.{length}
use Rattle.refusal.specs.Chain.{first}
use Rattle.plan.specs.declared.Job.{Job}
use Rattle.share.specs.Sharing.{share_tests, share_after}
use Rattle.mukerihe_bank.proofs.Outcomes.{turned_down, passed_on, told, share_numbered}
use Rattle.mukerihe_bank.proofs.share_of.Goals as goal

pub returns-then-job-ne-JOB_WORDS : goal.returns-then-job-ne-JOB_WORDS
returns-then-job-ne-JOB_WORDS c =
    let all = turned_down 13 c.args.job.now c.if-job-ne-JOB_WORDS.true _ _ _ in record { result_value = c.number.ensures ∙ all.0; out_after = all.1 }

pub returns : goal.returns
returns c =
    let shared = c.share.ensures in
    let is = c.job_of.ensures in
    let a = c.args in
    let number =
    c.number_of.ensures
    ∙ told (share_tests a.matrix c.job_of.result a.points.now a.host a.elements.now a.masks.now (length a.out.now)) (share_numbered _ _ _ _ _ _ _) shared.number in
    let all = passed_on 13 a.job.now c.if-job-ne-JOB_WORDS.false _ _ _
    (number ∙ ap (λ (x : Job). first (share_tests a.matrix x a.points.now a.host a.elements.now a.masks.now (length a.out.now))) is)
    (shared.block ∙ ap (λ (x : Job). share_after a.matrix x a.points.now a.host a.elements.now a.masks.now a.out.now) is) in
    record { result_value = all.0; out_after = all.1 }
