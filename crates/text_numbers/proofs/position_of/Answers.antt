-- `text_numbers::position_of` meets its contract.
use Rattle.std.proofs.Common.{◌∙◌, ap, arith}
use Rattle.text_numbers.proofs.Positions.{counted, counted_none, counted_more, counted_all, counted_is}
use Rattle.text_numbers.proofs.position_of.Goals as goal

pub loop-byte-init : goal.loop-byte-init
loop-byte-init c = counted_none _

pub loop-byte-preserved : goal.loop-byte-preserved
loop-byte-preserved c = rw c.position_after-position.ensures (counted_more c.loop-byte.invariant (omega arith))

pub returns : goal.returns
returns c =
    counted_all c.loop-byte.invariant (omega arith) ∙ ap counted c.front_of-byte-items.ensures ∙ counted_is c.args.text.now c.args.at
