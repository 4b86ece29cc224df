-- `page::check_table` meets its contract.
use mathlib.Core.Path.{sym, ◌∙◌}
use native.Mathlib.Omega.{arith}
use Rattle.page.proofs.Outcomes.{sizes}
use Rattle.page.proofs.check_table.Goals as goal

pub length_of-requires : goal.length_of-requires
length_of-requires c =
    let s = sizes _ _ (sym c.size_test.ensures ∙ c.if-size_test.false) in
    let tall = s.tall in
    let wide = s.wide in
    (omega arith, omega arith, omega arith)
