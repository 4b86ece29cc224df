-- `lister_line::read_byte` meets its contract.
use Rattle.std.proofs.Common.{◌<◌, sym, arith}
use Rattle.lister_line.specs.Internal.{with_digit, with_end, refused}
use Rattle.lister_line.proofs.Steps.{DigitTaken, digit_taken, end_taken, step_digit, step_end, step_refused}
use Rattle.lister_line.proofs.read_byte.Goals as goal
use Rattle.lister_line.proofs.read_byte.Goals.{Then-takes_digit, Then-takes_end}

-- what is known of a further digit
taken : (c : Then-takes_digit) → DigitTaken c.args.p c.args.byte
taken c = digit_taken _ _ (sym c.if-takes_digit.ensures)

pub overflow_mul-next : goal.overflow_mul-next
overflow_mul-next c = omega (arith, taken c)

pub overflow_sub-next : goal.overflow_sub-next
overflow_sub-next c = omega (arith, taken c)

pub overflow_add-next : goal.overflow_add-next
overflow_add-next c = omega (arith, taken c)

-- where a number ends, there is room for it
room : (c : Then-takes_end) → c.args.p.count < 10
room c = (end_taken _ _ (sym c.if-takes_end.ensures)).room

pub offset_bounds-next-count : goal.offset_bounds-next-count
offset_bounds-next-count c = omega (arith, room c)

pub bounds-next-count : goal.bounds-next-count
bounds-next-count c = room c

pub overflow_add-next-then-takes_end : goal.overflow_add-next-then-takes_end
overflow_add-next-then-takes_end c = omega (arith, room c)

pub returns-then-takes_digit : goal.returns-then-takes_digit
unfolding with_digit
returns-then-takes_digit c = rw c.unwrap_or-value.ensures (sym (step_digit _ _ (sym c.if-takes_digit.ensures)))

pub returns-then-takes_end : goal.returns-then-takes_end
unfolding with_end
returns-then-takes_end c =
    rw c.unwrap_or-value.ensures (sym (step_end _ _ (sym c.if-takes_digit.ensures) (sym c.if-takes_end.ensures)))

pub returns-else-takes_end : goal.returns-else-takes_end
unfolding refused
returns-else-takes_end c = sym (step_refused _ _ (sym c.if-takes_digit.ensures) (sym c.if-takes_end.ensures))
