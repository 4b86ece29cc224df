-- `page::write_page` meets its contract.
use mathlib.Core.Path.{◌≡◌, refl, sym, ◌∙◌}
use lib.ListN.{length}
use Rattle.std.proofs.Common.{rules}
use Rattle.std.specs.Prelude.{Ok}
use Rattle.std.proofs.lemmas.Result.{err_from_is_err_and}
use Rattle.refusal.specs.Chain.{answered}
use Rattle.text.proofs.Writes.{writes_all}
use Rattle.page.specs.Page.{page_tests, page_after}
use Rattle.page.proofs.Lengths.{length_page}
use Rattle.page.proofs.Outcomes.{Fits, fits, modulus_refused, past_modulus, kept, done}
use Rattle.page.proofs.write_page.Goals as goal
use Rattle.page.proofs.write_page.Goals.{In_ok-check_table}

pub returns-in_err-named : goal.returns-in_err-named
returns-in_err-named c =
    let a = c.args in
    let p = err_from_is_err_and c.from_residual.result c.from_residual.ensures.1 in
    let told = modulus_refused a.modulus a.t a.r a.table.now a.out.now _ (sym c.in_err-named.was ∙ c.try_from.ensures) in
    record { number = rw (p.1, p.2) told; text = kept a.modulus a.t a.r a.table.now a.out.now _ told }

pub returns-in_err-check_table : goal.returns-in_err-check_table
returns-in_err-check_table c =
    let a = c.args in
    let residual = c.from_residual-in_err-check_table in
    let p = err_from_is_err_and residual.result residual.ensures.1 in
    let told = c.in_err-check_table.ensures ∙ sym (past_modulus a.modulus a.t a.r a.table.now a.out.now _ (sym c.in_ok-named.was ∙ c.try_from.ensures)) in
    record { number = rw (p.1, p.2) told; text = kept a.modulus a.t a.r a.table.now a.out.now _ told }

-- no test holds
passed : (c : In_ok-check_table) → let a = c.args in
    record { all : Fits a.t a.r a.table.now (length a.out.now); none : Ok tt ≡ answered (page_tests a.modulus a.t a.r a.table.now (length a.out.now)) (tt {0}) }
passed c =
    let a = c.args in
    record {
      all = fits _ a.t a.r a.table.now _ c.in_ok-check_table.ensures;
      none = c.in_ok-check_table.ensures ∙ sym (past_modulus a.modulus a.t a.r a.table.now a.out.now _ (sym c.in_ok-named.was ∙ c.try_from.ensures));
    }

pub invariant_of-whole : goal.invariant_of-whole
invariant_of-whole c =
    let all = (passed (goal.at.invariant_of-whole c).In_ok-check_table).all in
    record { tall = all.sizes.tall.high; wide = all.sizes.wide.high; whole = all.whole }

pub returns : goal.returns
returns c =
    let a = c.args in
    let p = passed (goal.at.returns c).In_ok-check_table in
    let s = p.all.sizes in
    let text = writes_all refl (length_page a.t a.r a.table.now s.tall.high s.wide.low ∙ sym p.all.length_is) c.put_page.ensures in
    let told : c.put_page.new.w.out.now ≡ page_after a.modulus a.t a.r a.table.now a.out.now = text ∙ done a.modulus a.t a.r a.table.now a.out.now p.none in
    record { number = p.none; text = search rules }
