-- `sums_folded::pair_term` meets its contract.
use Rattle.std.proofs.Common.{◌≡◌, ◌+◌, ◌*◌, ◌%◌, ◌^◌, ap, ◌∙◌, arith}
use Rattle.sums_folded.specs.Internal.{fold, folded}
use Rattle.sums_folded.proofs.pair_term.Goals as goal

pub returns : goal.returns
unfolding folded
returns c =
    let both : (c.wide_product.result + c.wide_product-2.result) % 2 ^ 64 ≡ (c.args.a * c.args.x + c.args.b * c.args.y) % 2 ^ 64
    = omega (arith, c.wide_product-2.ensures, c.wide_product.ensures) in
    c.fold.ensures ∙ ap fold both
