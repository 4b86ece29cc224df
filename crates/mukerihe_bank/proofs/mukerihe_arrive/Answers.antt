-- `mukerihe_bank::mukerihe_arrive` meets its contract.
use mathlib.Core.Path.{◌≡◌, sym, ap, ◌∙◌}
use mathlib.Core.List.{List}
use Prim.Native.Nat.{ℕ}
use lib.ListN.{length}
use Rattle.std.specs.Prelude.{Result, Ok, Err}
use Rattle.refusal.specs.declared.Refusal.{Refusal}
use Rattle.refusal.specs.Chain.{first}
use Rattle.plan.specs.declared.Job.{Job}
use Rattle.arrival.specs.declared.Arrived.{Arrived}
use Rattle.arrival.specs.declared.Arrived.TheVariants.{Taken, AlreadyIn}
use Rattle.plan.specs.Words.{job_of}
use Rattle.arrival.proofs.Outcomes.{arrived_number}
use Rattle.arrival.specs.Arriving.{arrival_tests, arrived, store_after, number_of, heard_after}
use Rattle.mukerihe_bank.specs.Bank.{counted, if_counted, already_after}
use Rattle.mukerihe_bank.proofs.Outcomes.{miscounted, kept, well_counted, made}
use Rattle.mukerihe_bank.proofs.mukerihe_arrive.Goals as goal

pub returns-then-job-ne-JOB_WORDS : goal.returns-then-job-ne-JOB_WORDS
returns-then-job-ne-JOB_WORDS c =
    let words = c.args.job.now in
    let other = c.if-job-ne-JOB_WORDS.true in record { number = c.number.ensures ∙ miscounted 13 words other _; heard = kept 13 words other _ _; kept = kept 13 words other _ _; already = kept 13 words other _ _ }

-- what is told and left, whichever outcome it is, where the job's words are so many
module _ (words points : List ℕ) (heard : ℕ) (store message : List ℕ) (minute : ℕ) (same : length words ≡ 13) (job : Job) (is : job ≡ job_of words) where
  abbrev outcome : Result Arrived Refusal
  outcome = arrived (job_of words) points heard store message minute

  module _ (r : Result Arrived Refusal) (e : r ≡ arrived job points heard store message minute) where
    same-outcome : r ≡ outcome
    same-outcome = e ∙ ap (λ (x : Job). arrived x points heard store message minute) is

    number-is : number_of r ≡ first (counted 13 words (arrival_tests (job_of words) points heard store message minute))
    number-is = ap number_of same-outcome ∙ arrived_number (job_of words) points heard store message minute ∙ sym (well_counted 13 words same _)

    heard-is : heard_after heard r ≡ if_counted 13 words (heard_after heard outcome) heard
    heard-is = ap (heard_after heard) same-outcome ∙ sym (made 13 words same _ _)

    already-is : (already : ℕ) → already_after already r ≡ if_counted 13 words (already_after already outcome) already
    already-is already = ap (already_after already) same-outcome ∙ sym (made 13 words same _ _)

  kept-is : (after : List ℕ) → after ≡ store_after job points heard store message minute
      → after ≡ if_counted 13 words (store_after (job_of words) points heard store message minute) store
  kept-is after e = e ∙ ap (λ (x : Job). store_after x points heard store message minute) is ∙ sym (made 13 words same _ _)

pub returns-in-Ok-AlreadyIn : goal.returns-in-Ok-AlreadyIn
unfolding already_after
returns-in-Ok-AlreadyIn c =
    let a = c.args in
    let same = c.if-job-ne-JOB_WORDS.false in
    let r : Result Arrived Refusal = (Ok AlreadyIn) in
    let e : r ≡ arrived c.job_of.result a.points.now a.heard.now a.store.now a.message.now a.minute = sym (ap Ok c.in-Ok-AlreadyIn.field-0-is) ∙ c.in-Ok-AlreadyIn.ensures.outcome in
    record {
      number = number-is a.job.now a.points.now a.heard.now a.store.now a.message.now a.minute same _ c.job_of.ensures r e;
      heard = heard-is a.job.now a.points.now a.heard.now a.store.now a.message.now a.minute same _ c.job_of.ensures r e;
      kept = kept-is a.job.now a.points.now a.heard.now a.store.now a.message.now a.minute same _ c.job_of.ensures _ c.in-Ok-AlreadyIn.ensures.kept;
      already = already-is a.job.now a.points.now a.heard.now a.store.now a.message.now a.minute same _ c.job_of.ensures r e a.already.now;
    }

pub returns-in-Ok-Taken : goal.returns-in-Ok-Taken
unfolding already_after
returns-in-Ok-Taken c =
    let a = c.args in
    let same = c.if-job-ne-JOB_WORDS.false in
    let r : Result Arrived Refusal = (Ok (Taken c.in-Ok-Taken.after)) in
    let e : r ≡ arrived c.job_of.result a.points.now a.heard.now a.store.now a.message.now a.minute = sym (ap Ok c.in-Ok-Taken.field-0-is) ∙ c.in-Ok-Taken.ensures.outcome in
    record {
      number = number-is a.job.now a.points.now a.heard.now a.store.now a.message.now a.minute same _ c.job_of.ensures r e;
      heard = heard-is a.job.now a.points.now a.heard.now a.store.now a.message.now a.minute same _ c.job_of.ensures r e;
      kept = kept-is a.job.now a.points.now a.heard.now a.store.now a.message.now a.minute same _ c.job_of.ensures _ c.in-Ok-Taken.ensures.kept;
      already = already-is a.job.now a.points.now a.heard.now a.store.now a.message.now a.minute same _ c.job_of.ensures r e a.already.now;
    }

pub returns-in-Err : goal.returns-in-Err
unfolding already_after
returns-in-Err c =
    let a = c.args in
    let same = c.if-job-ne-JOB_WORDS.false in
    let r : Result Arrived Refusal = (Err c.in-Err.refusal) in
    let e : r ≡ arrived c.job_of.result a.points.now a.heard.now a.store.now a.message.now a.minute = c.in-Err.ensures.outcome in
    record {
      number = c.number-in-Err.ensures ∙ number-is a.job.now a.points.now a.heard.now a.store.now a.message.now a.minute same _ c.job_of.ensures r e;
      heard = heard-is a.job.now a.points.now a.heard.now a.store.now a.message.now a.minute same _ c.job_of.ensures r e;
      kept = kept-is a.job.now a.points.now a.heard.now a.store.now a.message.now a.minute same _ c.job_of.ensures _ c.in-Err.ensures.kept;
      already = already-is a.job.now a.points.now a.heard.now a.store.now a.message.now a.minute same _ c.job_of.ensures r e a.already.now;
    }
