-- `text_numbers::position_of` meets its contract.
use Rattle.text_numbers.proofs.Positions.{Counted}
use Rattle.text_numbers.proofs.position_of.Given as goal

abbrev pub invariant-loop-byte : goal.invariant-loop-byte
invariant-loop-byte l = Counted l.byte-items l.before l.position l.byte-index
