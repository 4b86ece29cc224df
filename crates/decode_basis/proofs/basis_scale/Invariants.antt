-- `decode_basis::basis_scale` meets its contract.
use mathlib.Core.Path.{◌≡◌}
use mathlib.Core.List.{List, ◌++◌}
use Prim.Native.Nat.{ℕ}
use Rattle.field.specs.Modulus.{prime}
use Rattle.decode_basis.specs.Internal.{basis_scale}
use Rattle.decode_basis.proofs.basis_scale.Given as goal

-- the scale over the points that the loop has passed
abbrev pub invariant-loop-y : goal.invariant-loop-y
invariant-loop-y l = (passed : List ℕ) × (l.points ≡ l.y-iterator.iter.rest.now ++ passed) × (l.scale ≡ basis_scale (prime l.modulus) l.x passed)
