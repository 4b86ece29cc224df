-- `product::multiply_rows` meets its contract.
use mathlib.Core.Path.{◌≡◌}
use mathlib.Core.List.{◌++◌}
use Prim.Native.Nat.{◌*◌, min}
use lib.ListN.{length, drop}
use Rattle.algebra.specs.Lists.{grid}
use Rattle.product.proofs.Rows.{element}
use Rattle.product.proofs.multiply_rows.Given as goal

abbrev pub invariant-loop-i : goal.invariant-loop-i
invariant-loop-i l =
    let made = min l.i l.s.rows in
    record {
      wide : length l.sums ≡ l.s.columns;
      is : l.out ≡ grid (element l.fn.x.modulus l.s.inner l.s.columns l.fn.x.a.now l.fn.x.b.now) made l.s.columns ++ drop (made * l.s.columns) l.initial.out;
    }
