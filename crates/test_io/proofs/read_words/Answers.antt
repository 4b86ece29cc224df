-- `test_io::read_words` meets its contract.
use lib.ListN.{take}
use borrow.Author.Rules.{rules}
use Rattle.test_io.proofs.Counts.{counts, words_kept}
use Rattle.test_io.proofs.read_words.Goals as goal

pub returns : goal.returns
returns c =
    let read = c.read_bytes-n in
    record {
      told = counts _ _ (search rules);
      most = search rules;
      rest = words_kept c.min-2.result read.result (take read.result read.new.out) _ c.read_elements.new.out
          read.ensures.told.1 c.read_elements.ensures c.read_elements.auto.out c.min-2.ensures;
    }
