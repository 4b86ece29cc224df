-- `arrival_heard::some_above` meets its contract.
use Rattle.std.proofs.Common.{◌∙◌, sym, arith}
use borrow.Author.Tests.{le-ltb}
use Rattle.arrival_heard.specs.Heard.{some_above}
use Rattle.arrival_heard.proofs.Bits.{bit_of, none_above}
use Rattle.arrival_heard.proofs.some_above.Goals as goal

pub returns-then-hosts-lt-BITS : goal.returns-then-hosts-lt-BITS
unfolding some_above
returns-then-hosts-lt-BITS c = rw (bit_of c.args.hosts c.if-hosts-lt-BITS.true)

pub returns-else-hosts-lt-BITS : goal.returns-else-hosts-lt-BITS
returns-else-hosts-lt-BITS c =
    let a = c.args in le-ltb a.hosts 64 (omega arith) ∙ sym (none_above a.heard 64 a.hosts (omega arith) (omega arith))
