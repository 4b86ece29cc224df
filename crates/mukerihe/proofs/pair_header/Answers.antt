-- `mukerihe::pair_header` meets its contract.
use Rattle.mukerihe.specs.Answer.{pair_header}
use Rattle.mukerihe.proofs.pair_header.Goals as goal

pub returns : goal.returns
unfolding pair_header
returns c = rw c.from.ensures
