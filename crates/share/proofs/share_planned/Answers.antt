-- `share::share_planned` meets its contract.
use mathlib.Core.Path.{◌≡◌, ◌∙◌}
use Prim.Native.Nat.{ℕ, ◌<◌}
use native.Mathlib.Omega.{arith}
use lib.ListN.{get_or, replicate, get_or-replicate}
use Rattle.algebra.specs.Lists.{AllBelow}
use Rattle.algebra.proofs.Lists.{below_drop}
use Rattle.field.specs.Modulus.{prime}
use Rattle.field.proofs.Moduli.{prime_prime}
use Rattle.share_side.specs.Internal.{Small, weight_count}
use Rattle.share_side.proofs.Parts.{few_weights}
use Rattle.share_blocks.proofs.Fitting.{matrix_answered}
use Rattle.share.proofs.Sums.{weights_below}
use Rattle.share.proofs.Outcomes.{share_made}
use Rattle.share.proofs.share_planned.Goals as goal
use Rattle.share.proofs.share_planned.Goals.{After-side_of-s}

-- the side that is made keeps the limits
small : (c : After-side_of-s) → Small c.side_of-s.result
small c = rw c.side_of-s.ensures c.requires

pub side_weights-requires : goal.side_weights-requires
side_weights-requires c = let own = small (goal.at.side_weights-requires c).After-side_of-s in (own, few_weights _ own)

-- the weights' array is made of zeros
zeros-below : (q : ℕ) → 0 < q → AllBelow q (replicate 80 0)
zeros-below q pos i l = let none : get_or (replicate {A = ℕ} 80 0) i 0 ≡ 0 = get_or-replicate {A = ℕ} 80 i 0 0 l in omega arith

pub returns : goal.returns
returns c =
    let a = c.args in
    let q = prime a.plan.modulus in
    let s = c.side_of-s.result in
    let own : Small s = rw c.side_of-s.ensures c.requires in
    let pos : 0 < q = omega (arith, (prime_prime a.plan.modulus).above_one) in
    let below = weights_below q c.strides_of-strides.result s a.x _ pos (below_drop q (replicate 80 0) (zeros-below q pos) (weight_count s)) in
    record {
      number = rw (← c.side_of-s.ensures) (c.encode.ensures.number ∙ matrix_answered s q _ _ _ own);
      block = rw (← c.side_of-s.ensures)
          (c.encode.ensures.block
          ∙ share_made a.plan.modulus c.strides_of-strides.ensures s own a.x _ _ _ _ a.out.now c.side_weights.ensures (rw c.side_weights.ensures below));
    }
