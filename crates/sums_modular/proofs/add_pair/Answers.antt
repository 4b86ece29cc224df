-- `sums_modular::add_pair` meets its contract.
use mathlib.Core.Path.{sym, ◌∙◌}
use Rattle.sums_modular.proofs.Picked.{when_large, when_small, two_plain}
use Rattle.sums_modular.proofs.add_pair.Goals as goal

pub returns-then-is_large : goal.returns-then-is_large
returns-then-is_large c = rw (when_large _ (sym c.is_large.ensures ∙ c.if-is_large.true)) c.add_pair.ensures

pub returns-else-is_large : goal.returns-else-is_large
returns-else-is_large c =
    let a = c.args in
    rw (when_small _ (sym c.is_large.ensures ∙ c.if-is_large.false)) (c.add_pair-else-is_large.ensures ∙ two_plain a.sums.now a.weight a.row.now a.second a.next.now)
