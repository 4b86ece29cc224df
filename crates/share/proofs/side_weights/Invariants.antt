-- `share::side_weights` meets its contract.
use mathlib.Core.Path.{◌≡◌}
use mathlib.Core.List.{◌++◌}
use Prim.Native.Nat.{◌*◌}
use lib.ListN.{drop}
use Rattle.algebra.specs.Lists.{grid}
use Rattle.field.specs.Modulus.{prime}
use Rattle.share_side.specs.Internal.{weight}
use Rattle.share.proofs.side_weights.Given as goal

abbrev pub invariant-loop-k : goal.invariant-loop-k
invariant-loop-k l =
    let columns = l.s.grid_columns in
    l.weights ≡ grid (weight (prime l.modulus) l.strides l.s.blocks l.x) l.k columns ++ drop (l.k * columns) l.initial.weights
