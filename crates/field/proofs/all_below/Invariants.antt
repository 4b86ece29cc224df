-- `field::all_below` meets its contract.
use mathlib.Core.Path.{◌≡◌}
use mathlib.Core.Bool.{not}
use lib.ListN.{take}
use Rattle.algebra.specs.Lists.{all_below}
use Rattle.field.proofs.all_below.Given as goal

abbrev pub invariant-loop-x : goal.invariant-loop-x
invariant-loop-x l = not l.over ≡ all_below l.q (take l.x-index l.xs)
