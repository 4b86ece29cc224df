-- `mukerihe_c::mukerihe_answer` meets its contract.
use mathlib.Core.Path.{sym, ap, ◌∙◌}
use Rattle.refusal.specs.Chain.{number_in}
use Rattle.refusal.proofs.Chains.{unless_done, unless_refused_lem}
use Rattle.refusal.proofs.Answered.{is_done, is_refused, number_told}
use Rattle.mukerihe.proofs.Answers.{answer_numbered}
use Rattle.mukerihe_c.proofs.mukerihe_answer.Goals as goal

pub returns-in-Ok-clause-number : goal.returns-in-Ok-clause-number
returns-in-Ok-clause-number c = sym (is_done _ _ _ c.in-Ok.ensures.outcome).0

pub returns-in-Ok-clause-written : goal.returns-in-Ok-clause-written
returns-in-Ok-clause-written c =
    let told = is_done _ _ _ c.in-Ok.ensures.outcome in
    told.1 ∙ sym (unless_done _ _ c.args.written.now told.0)

pub returns-in-Err-clause-number : goal.returns-in-Err-clause-number
returns-in-Err-clause-number c =
    c.number.ensures ∙ ap number_in c.in-Err.ensures.outcome ∙ number_told _ _ (answer_numbered _ _ _)

pub returns-in-Err-clause-written : goal.returns-in-Err-clause-written
returns-in-Err-clause-written c = sym (unless_refused_lem _ _ _ (is_refused _ _ _ c.in-Err.ensures.outcome).0)
