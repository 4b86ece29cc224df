-- `decode_basis::from_roots` meets its contract.
use mathlib.Core.Path.{◌≡◌}
use mathlib.Core.List.{List, ◌++◌}
use Prim.Native.Nat.{ℕ}
use lib.ListN.{length}
use Rattle.field.specs.Modulus.{prime}
use Rattle.decode_basis.specs.Internal.{coefficients, root_product}
use Rattle.decode_basis.proofs.from_roots.Given as goal

-- the product over the points that the loop has passed
abbrev pub invariant-loop-y : goal.invariant-loop-y
invariant-loop-y l =
    let q = prime l.modulus in
    (passed : List ℕ) × (l.points ≡ l.y-iterator.iter.rest.now ++ passed) × (l.out ≡ coefficients q (root_product q passed) (length l.initial.out))
