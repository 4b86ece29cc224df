-- `message::read_message` meets its contract.
use mathlib.Core.Path.{◌≡◌, sym, ◌∙◌}
use Prim.Native.Nat.{◌≤◌}
use native.Mathlib.Omega.{arith}
use lib.ListN.{length}
use Rattle.refusal.specs.Chain.{first}
use Rattle.message_header.proofs.Fields.{ranged}
use Rattle.message.specs.Format.{message_tests, examined}
use Rattle.message.proofs.Fields.{readable}
use Rattle.message.proofs.Parts.{read_part}
use Rattle.refusal.proofs.Answered.{is_done, is_refused}
use Rattle.std.proofs.lemmas.Result.{err_from_is_err_and}
use Rattle.message.proofs.Outcomes.{read_short, read_long, read_done, kept_short, kept}
use Rattle.message.proofs.read_message.Goals as goal
use Rattle.message.proofs.read_message.Goals.{In_ok-h}

pub returns-then-out-lt-MOST_ELEMENTS-clause-outcome : goal.returns-then-out-lt-MOST_ELEMENTS-clause-outcome
returns-then-out-lt-MOST_ELEMENTS-clause-outcome c = sym (read_short _ _ (omega arith))

pub returns-then-out-lt-MOST_ELEMENTS-clause-elements : goal.returns-then-out-lt-MOST_ELEMENTS-clause-elements
returns-then-out-lt-MOST_ELEMENTS-clause-elements c = sym (kept_short _ _ (omega arith))

pub returns-in_err-h-clause-outcome : goal.returns-in_err-h-clause-outcome
returns-in_err-h-clause-outcome c =
    let p = err_from_is_err_and c.from_residual.result c.from_residual.ensures.1 in
    rw (p.1, p.2, read_long c.args.message.now (length c.args.out.now) (omega arith)) c.in_err-h.ensures

pub returns-in_err-h-clause-elements : goal.returns-in_err-h-clause-elements
unfolding examined
returns-in_err-h-clause-elements c = sym (kept _ _ (omega arith) (is_refused _ _ _ c.in_err-h.ensures).0)

-- the message was looked over and not refused
accepted : (c : In_ok-h) → first (message_tests c.args.message.now) ≡ 0
unfolding examined
accepted c = (is_done _ _ _ c.in_ok-h.ensures).0

pub slice_bounds-read_elements-count : goal.slice_bounds-read_elements-count
slice_bounds-read_elements-count c = (readable c.args.message.now (accepted c)).head.long

pub slice_bounds-read_elements-start : goal.slice_bounds-read_elements-start
slice_bounds-read_elements-start c = (readable c.args.message.now (accepted c)).head.long

pub returns-clause-outcome : goal.returns-clause-outcome
returns-clause-outcome c = c.in_ok-h.ensures ∙ sym (read_long c.args.message.now (length c.args.out.now) (omega arith))

pub returns-clause-elements : goal.returns-clause-elements
returns-clause-elements c =
    let message = c.args.message.now in
    let out = c.args.out.now in
    let room : 4096 ≤ length out = omega arith in
    let clear = accepted (goal.at.returns-clause-elements c).In_ok-h in
    let r = readable message clear in
    c.read_elements.ensures
    ∙ read_part message r.whole out (omega (arith, (ranged _ r.head.fields).count, room))
    ∙ sym (read_done message out room clear)
