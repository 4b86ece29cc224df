-- `product::product_row` meets its contract.
use mathlib.Core.Path.{ap, ◌∙◌}
use mathlib.Core.List.{List}
use Prim.Native.Nat.{ℕ}
use lib.ListN.{length}
use Rattle.field.specs.Modulus.{prime}
use Rattle.sums.specs.Internal.{reduced}
use Rattle.sums_modular.specs.Internal.{added}
use Rattle.product.proofs.Rows.{one_row}
use Rattle.product.proofs.product_row.Goals as goal

pub returns : goal.returns
returns c =
    let reduce = c.reduce_row in
    let a = c.args in
    let pre = c.requires in
    reduce.ensures
    ∙ ap (λ (sums : List ℕ). reduced (prime a.modulus) sums a.out.now) (c.add_rows.ensures ∙ ap (λ (sums : List ℕ). added (prime a.modulus) sums a.row.now a.b.now (length a.out.now)) c.clear.ensures)
    ∙ one_row a.modulus a.row.now a.b.now a.sums.now a.out.now pre.0 pre.1 pre.2 pre.3
