-- `text_numbers::first_of` meets its contract.
use Rattle.std.proofs.Common.{◌≡◌, true, false, get_or, length, sym, arith}
use Rattle.text_numbers.specs.Words.{gap, begins}
use Rattle.text_numbers.proofs.Words.{first_here, first_later, first_none, begins_not}
use Rattle.text_numbers.proofs.first_of.Goals as goal
use Rattle.text_numbers.proofs.first_of.Goals.{in_default-via-in-Gap+else-is_first, in_default-via-in_default}

pub loop-i-init : goal.loop-i-init
unfolding gap
loop-i-init g c = λ words same. omega arith

pub returns-in-Gap : goal.returns-in-Gap
unfolding gap
returns-in-Gap g c = λ words same.
    let l = c.loop-i in
    let one : begins words l.before (get_or c.args.text.now l.i 0) ≡ true = rw c.in-Gap.is (sym (same _ _ c.if-is_first.ensures)) in
    first_here words l.before c.args.text.now l.i _ (l.invariant words same) (omega arith) one

pub loop-i-preserved : goal.loop-i-preserved
unfolding gap
loop-i-preserved g c = λ words same.
    let l = c.loop-i in
    let none : begins words l.before (get_or c.args.text.now l.i 0) ≡ false = elim c.in_default.branch [
      | in_default-via-in-Gap+else-is_first w ↦ rw w.in-Gap.is (sym (same _ _ w.if-is_first.ensures))
      | in_default-via-in_default w ↦ begins_not words _ _ w.in_default.not-Gap
    ] in
    rw c.before_next-before.ensures (first_later words l.before c.args.text.now l.i _ (l.invariant words same) (omega arith) none)

pub returns : goal.returns
returns g c = λ words same.
    let end : c.loop-i.i ≡ length c.args.text.now = omega arith in
    rw (← end) (first_none words c.loop-i.before c.args.text.now _ _ (c.loop-i.invariant words same) end)
