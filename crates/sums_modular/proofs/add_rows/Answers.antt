-- `sums_modular::add_rows` meets its contract.
use mathlib.Core.Path.{sym, ◌∙◌}
use Rattle.sums_modular.proofs.Picked.{when_large, when_small, all_plain}
use Rattle.sums_modular.proofs.add_rows.Goals as goal

pub returns-then-is_large : goal.returns-then-is_large
returns-then-is_large c = rw (when_large _ (sym c.is_large.ensures ∙ c.if-is_large.true)) c.add_rows.ensures

pub returns-else-is_large : goal.returns-else-is_large
returns-else-is_large c =
    let a = c.args in
    rw (when_small _ (sym c.is_large.ensures ∙ c.if-is_large.false)) (c.add_rows-else-is_large.ensures ∙ all_plain a.sums.now a.weights.now a.source.now a.stride)
