-- `arrival_heard::is_heard` meets its contract.
use Rattle.std.proofs.Common.{◌∙◌, sym, arith}
use borrow.Author.Tests.{le-ltb}
use Rattle.arrival_heard.proofs.Bits.{not_above}
use Rattle.arrival_heard.proofs.is_heard.Goals as goal

pub returns-else-index-lt-BITS : goal.returns-else-index-lt-BITS
returns-else-index-lt-BITS c =
    let a = c.args in le-ltb a.index 64 (omega arith) ∙ sym (not_above a.heard 64 a.index (omega arith) (omega arith))
