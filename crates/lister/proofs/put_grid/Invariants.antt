-- `lister::put_grid` meets its contract.
use Rattle.layout.specs.Internal.{exponent_by}
use Rattle.algebra.specs.Lists.{grid}
use Rattle.text.specs.Internal.{Writes}
use Rattle.lister.specs.Listing.{values}
use Rattle.lister.proofs.put_grid.Given as goal

abbrev pub invariant-loop-i : goal.invariant-loop-i
invariant-loop-i l = Writes l.initial.w (values (grid (exponent_by l.s l.series) l.i l.columns)) l.w
