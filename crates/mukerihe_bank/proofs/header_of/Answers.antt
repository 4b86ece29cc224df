-- `mukerihe_bank::header_of` meets its contract.
use borrow.Author.Rules.{rules}
use Rattle.mukerihe_bank.specs.Bank.{header_of}
use Rattle.mukerihe_bank.proofs.header_of.Goals as goal

pub returns : goal.returns
unfolding header_of
returns c = search rules
