-- `sums::clear` meets its contract.
use Rattle.std.proofs.Common.{ℕ, ◌<◌, length, sym, ◌∙◌, ext_get_or, rules, arith}
use Rattle.std.proofs.lemmas.List.{length-replicate, get_or-replicate}
use Rattle.algebra.proofs.Lists.{length_tab, get_or_tab}
use Rattle.sums.specs.Internal.{zeros}
use Rattle.sums.proofs.clear.Goals as goal

pub returns : goal.returns
unfolding zeros
returns c =
    let n = length c.args.sums.now in
    c.fill.ensures.after (λ y e. search rules)
    ∙ ext_get_or 0 _ _ (length-replicate n 0 ∙ sym (length_tab _ n)) (λ j l.
    let below : j < n = omega (arith, length-replicate {A = ℕ} n 0) in
    get_or-replicate n j 0 0 below ∙ sym (get_or_tab _ n j 0 below))
