-- `lister::list_plan` meets its contract.
use mathlib.Core.Path.{refl}
use native.Mathlib.Omega.{arith}
use Rattle.text.proofs.Writes.{then, same}
use Rattle.lister.specs.Listing.{a_line, b_line, c_line, plan_text}
use Rattle.lister.proofs.Lines.{lists}
use Rattle.lister.proofs.Strides.{side_is, places_is}
use Rattle.lister.proofs.list_plan.Goals as goal

pub returns : goal.returns
unfolding plan_text a_line b_line c_line
returns c =
    let f = c.strides_of-strides.ensures in
    let known = c.well_formed in
    lists refl (omega arith)
    (then c.put_numbers.ensures
    (then (same (side_is f _ (omega (arith, known)) (omega (arith, known))) c.put_side.ensures)
    (then (same (side_is f _ (omega (arith, known)) (omega (arith, known))) c.put_side-2.ensures)
    (same (places_is f _ _ (omega (arith, known))) c.put_places.ensures))))
