-- `message_header::read_header` meets its contract.
use mathlib.Core.Path.{◌≡◌, sym, ap, ◌∙◌}
use borrow.Author.Tests.{lt-ltb, le-ltb}
use Rattle.std.proofs.lemmas.Result.{err_from_is_err_and}
use Rattle.refusal.specs.Numbers.{refusal_of, sheet}
use Rattle.refusal.specs.Chain.{first, outcome, answered}
use Rattle.refusal.proofs.Answered.{answered_done, is_done}
use Rattle.message_header.specs.declared.Header.{Header}
use Rattle.message_header.specs.Header.{field_tests, header_tests}
use Rattle.message_header.specs.Internal.{checked, opened}
use Rattle.message_header.proofs.Tests.{past_version}
use Rattle.message_header.proofs.Outcomes.{refused_by, check_told}
use Rattle.message_header.proofs.read_header.Goals as goal
use Rattle.message_header.proofs.read_header.Goals.{After-header_fields-h}

pub returns-then-message-lt-HEADER_BYTES : goal.returns-then-message-lt-HEADER_BYTES
unfolding opened header_tests first outcome answered refusal_of sheet
returns-then-message-lt-HEADER_BYTES c = rw (lt-ltb _ _ c.if-message-lt-HEADER_BYTES.true)

pub returns-then-mark_test : goal.returns-then-mark_test
unfolding opened header_tests first outcome answered refusal_of sheet
returns-then-mark_test c = rw (le-ltb _ _ c.if-message-lt-HEADER_BYTES.false, ← c.mark_test.ensures, c.if-mark_test.true)

pub returns-then-version_test : goal.returns-then-version_test
unfolding opened header_tests first outcome answered refusal_of sheet
returns-then-version_test c =
    rw (le-ltb _ _ c.if-message-lt-HEADER_BYTES.false, ← c.mark_test.ensures, c.if-mark_test.false, ← c.version_test.ensures, c.if-version_test.true)

-- the fields, as they were read, decide
fields-decide : (c : After-header_fields-h)
    → first (header_tests c.args.message.now) ≡ first (field_tests c.header_fields-h.result)
fields-decide c =
    past_version _ c.if-message-lt-HEADER_BYTES.false (sym c.mark_test.ensures ∙ c.if-mark_test.false) (sym c.version_test.ensures ∙ c.if-version_test.false)
    ∙ ap (λ (h : Header). first (field_tests h)) (sym c.header_fields-h.ensures)

pub returns-in_err-modulus : goal.returns-in_err-modulus
unfolding opened
returns-in_err-modulus c =
    let p = err_from_is_err_and c.from_residual.result c.from_residual.ensures.1 in
    let told = check_told c.header_fields-h.result _ c.in_err-modulus.ensures in
    let same = fields-decide (goal.at.returns-in_err-modulus c).After-header_fields-h in
    rw (p.1, p.2) (refused_by _ _ _ (λ z. told.0 (sym same ∙ z)) (told.1 ∙ ap refusal_of (sym same)))

pub returns : goal.returns
unfolding opened checked
returns c =
    let told = is_done _ _ _ c.in_ok-modulus.ensures in
    rw (← c.header_fields-h.ensures, told.1) (sym (answered_done _ _ (fields-decide (goal.at.returns c).After-header_fields-h ∙ told.0)))
