-- `decode::Choice::decoding_weights` meets its contract.
use mathlib.Core.Path.{◌≡◌}
use mathlib.Core.List.{List, ◌++◌}
use Prim.Native.Nat.{ℕ, ◌+◌, ◌*◌}
use lib.ListN.{length, get_or, drop}
use Rattle.algebra.specs.Lists.{grid}
use Rattle.field.specs.Modulus.{prime}
use Rattle.plan.specs.declared.Plan.{Plan}
use Rattle.decode_basis.specs.Internal.{coefficients, root_product}
use Rattle.decode.specs.Internal.{host_weight}
use Rattle.decode.proofs.Choice.decoding_weights.Given as goal

-- the weight of the chosen host number c in block b
abbrev pub value : Plan → List ℕ → ℕ → ℕ → ℕ
value plan points c =
    let q = prime plan.modulus in
    host_weight plan (get_or points c 0) points (coefficients q (root_product q points) (length points + 1))

abbrev pub invariant-loop-c : goal.invariant-loop-c
invariant-loop-c l = l.weights ≡ grid (value l.self.plan l.self.points.now) l.c l.size ++ drop (l.c * l.size) l.initial.weights
