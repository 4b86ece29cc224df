-- `decode_table::answer_at` meets its contract.
use Prim.Native.Nat.{◌*◌, ◌≤◌}
use native.Mathlib.Nat.{mul-le-mul}
use native.Mathlib.Omega.{arith}
use Rattle.algebra.proofs.Lists.{rest_clipped}
use Rattle.decode_table.proofs.answer_at.Goals as goal

pub overflow_mul-index : goal.overflow_mul-index
overflow_mul-index c =
    let low : c.args.index ≤ 4294967296 = omega arith in
    omega (arith, mul-le-mul low c.requires)

pub returns : goal.returns
returns c = let a = c.args in rest_clipped a.source.now (a.index * a.size) c.min-start.result c.min-start.ensures
