-- `decode::Choice::host_weights` meets its contract.
use mathlib.Core.Path.{◌≡◌, ap, ap₂, ◌∙◌}
use mathlib.Core.List.{List, ◌++◌}
use Prim.Native.Nat.{ℕ, ◌*◌, ◌/◌, ◌%◌, ◌<◌}
use native.Mathlib.Nat.{mod-lt, mod-le, div-lt_iff_lt-mul}
use native.Mathlib.Omega.{arith}
use lib.ListN.{length, get_or, take, drop, set, replicate}
use lib.Seq.{length-take-le}
use Rattle.algebra.specs.Lists.{tab}
use Rattle.algebra.proofs.Fronts.{front_none, front_more, front_all}
use Rattle.field.specs.Modulus.{prime}
use Rattle.layout.specs.declared.Strides.{Strides}
use Rattle.layout.specs.declared.Series.TheVariants.{Places}
use Rattle.layout.specs.Exponents.{term, exponents}
use Rattle.layout.specs.Internal.{exponent_by, Follows}
use Rattle.layout.proofs.Nests.{exponent_is}
use Rattle.plan.specs.declared.Plan.{Plan}
use Rattle.decode_basis.specs.Internal.{quotient}
use Rattle.decode_table.specs.Internal.{block_count}
use Rattle.decode.specs.Internal.{shape, place_of, host_weight, Roomy}
use Rattle.decode.proofs.Choice.host_weights.Goals as goal
use Rattle.decode.proofs.Choice.host_weights.Goals.{After-divide_root, In-loop-b}

-- the place of block b, by the strides, is below the number of points
module _ (plan : Plan) (hosts : ℕ) (room : Roomy plan hosts) (strides : Strides) (follows : Follows strides plan.parameters (exponents plan.layout plan.parameters))
    (b : ℕ) (h : b < block_count (shape plan)) where
  place_is : exponent_by strides Places (b / plan.parameters.n) (b % plan.parameters.n)
      ≡ place_of plan (b / plan.parameters.n) (b % plan.parameters.n)
  unfolding term
  place_is = exponent_is follows Places _ _ (omega (arith, room.small, mod-le b plan.parameters.n))

  row_below : b / plan.parameters.n < plan.parameters.m
  unfolding block_count shape
  row_below = (div-lt_iff_lt-mul room.split).1 h

  place_below : exponent_by strides Places (b / plan.parameters.n) (b % plan.parameters.n) < hosts
  place_below = omega (arith, place_is, room.places _ _ row_below (mod-lt b room.split))

-- there is a next block
more : (c : In-loop-b) → c.loop-b.b < block_count (shape c.args.self.now.plan)
more c = omega (arith, c.requires.1)

pub loop-b-init : goal.loop-b-init
loop-b-init c = front_none _ c.args.out.now

-- the quotient has a coefficient for each point
room-length : (c : After-divide_root) → let n = length c.args.self.now.points.now in length (take n (replicate {A = ℕ} 64 0)) ≡ n
room-length c = let t = c.args.self.now in length-take-le (length t.points.now) (replicate 64 0) t.roomy.few

pub bounds-quotient-place : goal.bounds-quotient-place
bounds-quotient-place c =
    let t = c.args.self.now in
    let e = goal.at.bounds-quotient-place c in
    omega (arith, c.divide_root.auto.out, room-length e.After-divide_root, c.exponent_of-place.ensures, place_below t.plan _ t.roomy _ c.requires.0 _ (more e.In-loop-b))

pub loop-b-preserved : goal.loop-b-preserved
unfolding host_weight
loop-b-preserved c =
    let a = c.args in
    let t = a.self.now in
    let q = prime t.plan.modulus in
    let l = c.loop-b in
    let f = host_weight t.plan a.x t.points.now a.roots.now in
    let e = goal.at.loop-b-preserved c in
    let divided = c.divide_root.ensures ∙ ap (quotient q a.x a.roots.now) (room-length e.After-divide_root) in
    let place = c.exponent_of-place.ensures ∙ place_is t.plan _ t.roomy _ c.requires.0 _ (more e.In-loop-b) in
    let value : c.multiply.result ≡ f l.b
    = c.multiply.ensures
    ∙ ap₂ (λ (n k : ℕ). n * k % q) c.basis_scale-scale.ensures (ap₂ (λ (xs : List ℕ) (k : ℕ). get_or xs k 0) divided place) in
    ap (set l.out l.b) value ∙ front_more f a.out.now l.out l.b (omega arith) l.invariant

pub returns : goal.returns
returns c =
    let a = c.args in
    let t = a.self.now in
    let f = host_weight t.plan a.x t.points.now a.roots.now in
    let all : c.loop-b.b ≡ block_count (shape t.plan) = omega (arith, c.requires.1) in
    c.loop-b.invariant ∙ ap (λ (k : ℕ). tab f k ++ drop k a.out.now) all ∙ front_all f a.out.now _ (omega (arith, c.requires.1))
