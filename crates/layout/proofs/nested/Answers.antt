-- `layout::nested` meets its contract.
use Rattle.std.proofs.Common.{arith}
use Rattle.layout.proofs.Nests.{less_one}
use Rattle.layout.proofs.nested.Goals as goal

pub returns : goal.returns
returns c = record {
  stride = omega arith;
  inner_stride = omega arith;
  inner_p = omega arith;
  outer_mask = omega (arith, less_one c.args.outer c.strided-stride.result);
  inner_mask = omega arith;
  needed = omega arith;
  small_outer = grind arith;
  small_inner = grind arith;
}
