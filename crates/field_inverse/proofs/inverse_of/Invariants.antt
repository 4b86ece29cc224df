-- `field_inverse::inverse_of` meets its contract.
use Rattle.field_inverse.proofs.Euclid.{Euclid}
use Rattle.field_inverse.proofs.inverse_of.Given as goal

abbrev pub invariant-loop-next : goal.invariant-loop-next
invariant-loop-next l = Euclid l.q l.a l.last l.next l.last_factor l.next_factor l.minus

abbrev pub decreases-loop-next : goal.decreases-loop-next
decreases-loop-next l = l.next
