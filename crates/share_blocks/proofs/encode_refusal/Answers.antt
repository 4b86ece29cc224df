-- `share_blocks::encode_refusal` meets its contract.
use mathlib.Core.Path.{sym, ◌∙◌}
use native.Mathlib.Nat.{mul-le-mul}
use native.Mathlib.Omega.{arith}
use Rattle.share_side.specs.Internal.{Small}
use Rattle.share_blocks.proofs.Fitting.{within}
use Rattle.share_blocks.proofs.encode_refusal.Goals as goal
use Rattle.share_blocks.proofs.encode_refusal.Goals.{Else-beyond_limits}

-- past the first test, the side keeps the limits
small : (c : Else-beyond_limits) → Small c.args.s
small c = within _ (sym c.beyond_limits.ensures ∙ c.if-beyond_limits.false)

pub overflow_mul-block : goal.overflow_mul-block
overflow_mul-block c = omega (arith, (small (goal.at.overflow_mul-block c).Else-beyond_limits).block)

pub overflow_mul-matrix : goal.overflow_mul-matrix
overflow_mul-matrix c = let s = small (goal.at.overflow_mul-matrix c).Else-beyond_limits in omega (arith, mul-le-mul s.grid_rows s.grid_columns)

pub overflow_mul-matrix-2 : goal.overflow_mul-matrix-2
overflow_mul-matrix-2 c = let s = small (goal.at.overflow_mul-matrix-2 c).Else-beyond_limits in omega (arith, mul-le-mul (mul-le-mul s.grid_rows s.grid_columns) s.block)

pub overflow_mul-s : goal.overflow_mul-s
overflow_mul-s c = let s = small (goal.at.overflow_mul-s c).Else-beyond_limits in omega (arith, mul-le-mul s.mask_count s.block)
