-- `message::check_write` meets its contract.
use mathlib.Core.Path.{◌≡◌, sym, ap, ◌∙◌}
use mathlib.Core.Bool.{not, ◌||◌}
use mathlib.Core.List.{List, [], ◌∷◌}
use Prim.Native.Nat.{ℕ, ◌+◌, ◌*◌, ◌≤◌}
use native.Mathlib.Omega.{arith}
use lib.ListN.{length}
use Rattle.std.specs.Prelude.{Ok}
use Rattle.std.proofs.lemmas.Result.{err_from_is_err_and}
use Rattle.refusal.specs.Numbers.{refusal_of, sheet}
use Rattle.refusal.specs.Chain.{answered, differs}
use Rattle.refusal.proofs.Answered.{answered_hit, answered_miss, answered_none, refused_on, passed_on}
use Rattle.field.specs.declared.Modulus.{Modulus}
use Rattle.message_header.specs.declared.Header.{Header}
use Rattle.message_header.specs.Header.{element_count, field_tests}
use Rattle.message_header.specs.Internal.{checked}
use Rattle.message_header.proofs.Tests.{fields_numbered}
use Rattle.message_header.proofs.Fields.{ranged}
use Rattle.message_header.proofs.Outcomes.{fit_told}
use Rattle.message.specs.Format.{element_test, write_tests}
use Rattle.message.proofs.Tests.{element_named}
use Rattle.message.proofs.check_write.Goals as goal

-- the fields have passed, and this is their modulus
module _ (h : Header) (m : Modulus) (fit : Ok m ≡ checked h) where
  small : h.rows * h.columns ≤ 4096
  unfolding element_count
  small = (ranged h (fit_told h m fit).0).count

  past_fields : (xs : List ℕ) (room : ℕ) → answered (write_tests h xs room) (tt {0})
      ≡ answered
      ((differs (length xs) (h.rows * h.columns) || differs room (16 + 4 * (h.rows * h.columns)), 13)
      ∷ (element_test h.modulus xs, 14)
      ∷ []) (tt {0})
  unfolding write_tests checked element_count
  past_fields xs room = passed_on (field_tests h) _ _ _ m (fields_numbered h) fit

pub overflow_mul-count : goal.overflow_mul-count
overflow_mul-count c = omega (arith, small _ _ c.in_ok-modulus.ensures)

pub overflow_mul-count-2 : goal.overflow_mul-count-2
overflow_mul-count-2 c = omega (arith, small _ _ c.in_ok-modulus.ensures)

pub overflow_add-count : goal.overflow_add-count
overflow_add-count c = omega (arith, small _ _ c.in_ok-modulus.ensures)

pub returns-in_err-modulus : goal.returns-in_err-modulus
unfolding write_tests checked
returns-in_err-modulus c =
    let p = err_from_is_err_and c.from_residual.result c.from_residual.ensures.1 in
    rw (p.1, p.2) (refused_on (field_tests c.args.h) _ _ _ _ c.in_err-modulus.ensures)

pub returns-then-xs-count : goal.returns-then-xs-count
unfolding refusal_of sheet
returns-then-xs-count c = sym (past_fields _ _ c.in_ok-modulus.ensures _ _ ∙ answered_hit _ 12 _ _ c.if-xs-count.true)

-- the test of the elements, by the modulus that the fields have
pub returns-then-not-all_below : goal.returns-then-not-all_below
unfolding refusal_of sheet
returns-then-not-all_below c =
    let test = element_named _ _ (fit_told _ _ c.in_ok-modulus.ensures).1 ∙ ap not (sym c.all_below.ensures ∙ c.if-not-all_below.true) in
    sym (past_fields _ _ c.in_ok-modulus.ensures _ _ ∙ answered_miss _ 13 _ _ c.if-xs-count.false ∙ answered_hit _ 13 _ _ test)

pub returns : goal.returns
returns c =
    let test = element_named _ _ (fit_told _ _ c.in_ok-modulus.ensures).1 ∙ ap not (sym c.all_below.ensures ∙ c.if-not-all_below.false) in
    sym (past_fields _ _ c.in_ok-modulus.ensures _ _ ∙ answered_miss _ 13 _ _ c.if-xs-count.false ∙ answered_miss _ 14 _ _ test ∙ answered_none _)
