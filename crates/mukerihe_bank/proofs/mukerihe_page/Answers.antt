-- `mukerihe_bank::mukerihe_page` meets its contract.
use mathlib.Core.Path.{◌∙◌}
use Rattle.mukerihe_bank.proofs.Outcomes.{told, page_numbered}
use Rattle.mukerihe_bank.proofs.mukerihe_page.Goals as goal

pub returns-clause-number : goal.returns-clause-number
returns-clause-number c = c.number_of.ensures ∙ told _ (page_numbered _ _ _ _ _) c.write_page.ensures.number
