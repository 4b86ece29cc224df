-- `text_numbers::token_end` meets its contract.
use Rattle.std.proofs.Common.{◌≡◌, ◌∙◌, length, sym, arith}
use Rattle.text_numbers.proofs.Words.{end_here, end_later, end_none}
use Rattle.text_numbers.proofs.token_end.Goals as goal

pub returns-then-sets_apart : goal.returns-then-sets_apart
returns-then-sets_apart c =
    end_here c.args.text.now c.loop-i.i _ c.loop-i.invariant (omega arith) (sym c.sets_apart.ensures ∙ c.if-sets_apart.true)

pub loop-i-preserved : goal.loop-i-preserved
loop-i-preserved c =
    end_later c.args.text.now c.loop-i.i _ c.loop-i.invariant (omega arith) (sym c.sets_apart.ensures ∙ c.if-sets_apart.false)

pub returns : goal.returns
returns c =
    let end : c.loop-i.i ≡ length c.args.text.now = omega arith in rw (← end) (end_none c.args.text.now _ _ c.loop-i.invariant end)
