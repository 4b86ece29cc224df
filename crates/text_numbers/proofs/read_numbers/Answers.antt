-- `text_numbers::read_numbers` meets its contract.
use Rattle.std.proofs.Common.{◌+◌, sym, arith}
use Rattle.text_numbers.specs.Numbers.{apart}
use Rattle.text_numbers.proofs.Steps.{refused_byte, refused_room}
use Rattle.text_numbers.proofs.ReadLoop.{Read-on, read_none, read_more, read_number, read_fault, read_all}
use Rattle.text_numbers.proofs.read_numbers.Goals as goal
use Rattle.text_numbers.proofs.read_numbers.Goals.{After-part_after-part, in-Some+else-n-out, in_default}

pub loop-at-init : goal.loop-at-init
unfolding apart
loop-at-init c = read_none _ _

pub returns-then-not-fits_in : goal.returns-then-not-fits_in
returns-then-not-fits_in c =
    let all = read_fault c.loop-at.invariant c.loop-at-test.true c.byte_at-byte.result c.byte_at-byte.ensures
    (refused_byte _ _ _ (sym c.if-not-fits_in.ensures)) in record { outcome = all.0; output = all.1 }

pub returns-then-n-out : goal.returns-then-n-out
returns-then-n-out c =
    let all = read_fault c.loop-at.invariant c.loop-at-test.true c.byte_at-byte.result c.byte_at-byte.ensures
    (refused_room _ _ _ (sym c.if-not-fits_in.ensures) c.in-Some.ensures.0 (omega arith)) in record { outcome = all.0; output = all.1 }

-- one more byte is read
step : (c : After-part_after-part)
    → Read-on c.args.text.now c.args.out.now c.match-ended.out c.part_after-part.result c.match-ended.n (c.loop-at.at + 1)
step c =
    let read = c.loop-at.invariant in
    let fits = sym c.if-not-fits_in.ensures in
    rw c.part_after-part.ensures
    (elim c.match-ended.branch [
      | in-Some+else-n-out w ↦ rw (w.out-is, w.n-is, w.in-Some.ensures.1)
          (read_number read c.loop-at-test.true c.byte_at-byte.result c.byte_at-byte.ensures fits w.in-Some.ensures.0 (omega arith))
      | in_default w ↦ rw (w.out-is, w.n-is)
          (read_more read c.loop-at-test.true c.byte_at-byte.result c.byte_at-byte.ensures fits w.in_default.ensures)
    ])

pub loop-at-preserved : goal.loop-at-preserved
loop-at-preserved c = step (goal.at.loop-at-preserved c).After-part_after-part

pub returns-after-ended : goal.returns-after-ended
returns-after-ended c =
    let all = read_all (step (goal.at.returns-after-ended c).After-part_after-part) (omega arith) in record { outcome = all.0; output = all.1 }
