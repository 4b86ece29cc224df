-- `mukerihe_bank::mukerihe_multiply` meets its contract.
use mathlib.Core.Path.{◌∙◌}
use Rattle.mukerihe_bank.proofs.Outcomes.{told, product_numbered}
use Rattle.mukerihe_bank.proofs.mukerihe_multiply.Goals as goal

pub returns-clause-number : goal.returns-clause-number
returns-clause-number c = c.number_of.ensures ∙ told _ (product_numbered _ _ _ _ _ _ _) c.product.ensures.number
