-- `mukerihe_bank::mukerihe_decode` meets its contract.
use mathlib.Core.Path.{ap, ◌∙◌}
use lib.ListN.{length}
use Rattle.refusal.specs.Chain.{first}
use Rattle.plan.specs.declared.Job.{Job}
use Rattle.decode.specs.Decoding.{decode_tests, table_after}
use Rattle.mukerihe_bank.proofs.Outcomes.{turned_down, passed_on, told, decode_numbered}
use Rattle.mukerihe_bank.proofs.mukerihe_decode.Goals as goal

pub returns-then-job-ne-JOB_WORDS : goal.returns-then-job-ne-JOB_WORDS
returns-then-job-ne-JOB_WORDS c = let all = turned_down 13 c.args.job.now c.if-job-ne-JOB_WORDS.true _ _ _ in record { number = c.number.ensures ∙ all.0; table = all.1 }

pub returns : goal.returns
returns c =
    let decoded = c.decode.ensures in
    let is = c.job_of.ensures in
    let a = c.args in
    let number = c.number_of.ensures ∙ told (decode_tests c.job_of.result a.points.now a.heard a.store.now (length a.table.now)) (decode_numbered _ _ _ _ _) decoded.number in
    let all = passed_on 13 a.job.now c.if-job-ne-JOB_WORDS.false _ _ _
    (number ∙ ap (λ (x : Job). first (decode_tests x a.points.now a.heard a.store.now (length a.table.now))) is)
    (decoded.table ∙ ap (λ (x : Job). table_after x a.points.now a.heard a.store.now a.table.now) is) in record { number = all.0; table = all.1 }
