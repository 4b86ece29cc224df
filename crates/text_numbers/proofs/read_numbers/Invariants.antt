-- `text_numbers::read_numbers` meets its contract.
use Rattle.text_numbers.proofs.ReadLoop.{Read-on}
use Rattle.text_numbers.proofs.read_numbers.Given as goal

abbrev pub invariant-loop-at : goal.invariant-loop-at
invariant-loop-at l = Read-on l.text l.initial.out l.out l.part l.n l.at
