-- `lister::put_refused` meets its contract.
use mathlib.Core.Path.{refl}
use native.Mathlib.Omega.{arith}
use Rattle.lister.specs.Listing.{refused_text}
use Rattle.lister.proofs.Lines.{lists}
use Rattle.lister.proofs.put_refused.Goals as goal

pub returns : goal.returns
unfolding refused_text
returns c = rw c.number.ensures at (lists refl (omega arith) c.put_line.ensures)
