-- `lister::put_row` meets its contract.
use Rattle.algebra.specs.Lists.{tab}
use Rattle.layout.specs.Internal.{exponent_by}
use Rattle.text.specs.Internal.{Writes}
use Rattle.lister.specs.Listing.{values}
use Rattle.lister.proofs.put_row.Given as goal

abbrev pub invariant-loop-j : goal.invariant-loop-j
invariant-loop-j l = Writes l.initial.w (values (tab (exponent_by l.s l.series l.i) l.j)) l.w
