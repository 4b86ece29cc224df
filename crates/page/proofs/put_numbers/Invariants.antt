-- `page::put_numbers` meets its contract.
use lib.ListN.{get_or}
use Rattle.algebra.specs.Lists.{stack}
use Rattle.text.specs.Internal.{Writes}
use Rattle.page.specs.Page.{cell}
use Rattle.page.proofs.put_numbers.Given as goal

abbrev pub invariant-loop-number : goal.invariant-loop-number
invariant-loop-number l =
    Writes l.initial.w (stack (λ k. cell 11 (get_or l.numbers k 0)) l.number-index) l.w
