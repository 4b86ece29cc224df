-- `share_side::weigh` meets its contract.
use mathlib.Core.Path.{◌≡◌}
use mathlib.Core.List.{◌++◌}
use lib.ListN.{drop}
use Rattle.algebra.specs.Lists.{tab}
use Rattle.field.specs.Modulus.{prime}
use Rattle.share_side.specs.Internal.{weight}
use Rattle.share_side.proofs.weigh.Given as goal

abbrev pub invariant-loop-j : goal.invariant-loop-j
invariant-loop-j l = l.weight-items ≡ tab (weight (prime l.modulus) l.strides l.series l.x l.row) l.j ++ drop l.j l.initial.weight-items
