-- `text_numbers::past_mark` meets its contract.
use Rattle.text_numbers.proofs.Words.{mark_cut}
use Rattle.text_numbers.proofs.past_mark.Goals as goal

pub returns : goal.returns
returns c = rw c.unwrap_or.ensures (mark_cut c.args.text _ c.strip_prefix.ensures.cases)
