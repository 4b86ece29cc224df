-- `text_numbers::first_token` meets its contract.
use Rattle.std.proofs.Common.{false, rules}
use Rattle.text_numbers.specs.Words.{gap, begins}
use Rattle.text_numbers.proofs.first_token.Goals as goal

pub returns : goal.returns
unfolding gap begins
returns c = c.first_of.ensures false (λ b r given. search rules)
