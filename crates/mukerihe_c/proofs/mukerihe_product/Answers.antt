-- `mukerihe_c::mukerihe_product` meets its contract.
use mathlib.Core.Path.{sym, ap, ◌∙◌}
use Rattle.refusal.specs.Chain.{number_in}
use Rattle.refusal.proofs.Answered.{is_done, number_told}
use Rattle.mukerihe.proofs.Outcomes.{host_numbered}
use Rattle.mukerihe_c.proofs.mukerihe_product.Goals as goal

pub returns-in-Ok-clause-number : goal.returns-in-Ok-clause-number
returns-in-Ok-clause-number c = sym (is_done _ _ _ c.in-Ok.ensures.number).0

pub returns-in-Err-clause-number : goal.returns-in-Err-clause-number
returns-in-Err-clause-number c =
    c.number.ensures ∙ ap number_in c.in-Err.ensures.number ∙ number_told _ _ (host_numbered _ _ _ _ _ _ _)
