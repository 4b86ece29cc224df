-- `arrival_heard::lowest_heard` meets its contract.
use Rattle.arrival_heard.proofs.Lowest.{Found}
use Rattle.arrival_heard.proofs.lowest_heard.Given as goal

abbrev pub invariant-loop-index : goal.invariant-loop-index
invariant-loop-index l = Found l.heard l.initial.out l.out l.n l.index
