-- `decode::heard_below` meets its contract.
use mathlib.Core.Path.{◌≡◌}
use mathlib.Core.Bool.{not}
use Rattle.field.specs.Modulus.{prime}
use Rattle.decode.specs.Decoding.{heard_below}
use Rattle.decode.proofs.heard_below.Given as goal

abbrev pub invariant-loop-index : goal.invariant-loop-index
invariant-loop-index l = not l.over ≡ heard_below (prime l.modulus) l.size l.heard l.store l.index
