-- `text_numbers::first_word` meets its contract.
use Rattle.std.proofs.Common.{true, rules}
use Rattle.text_numbers.specs.Words.{gap, begins}
use Rattle.text_numbers.proofs.first_word.Goals as goal

pub returns : goal.returns
unfolding gap begins
returns c = c.first_of.ensures true (λ b r given. search rules)
