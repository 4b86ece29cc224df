-- `text::put_last_digits` meets its contract.
use Rattle.std.proofs.Common.{◌≡◌, ◌++◌, ◌∙◌, ℕ, suc, ◌-◌, drop, ap, arith}
use Rattle.text.specs.Internal.{last_digits}
use Rattle.text.proofs.Decimals.{last_digits_more}
use Rattle.text.proofs.put_last_digits.Goals as goal

pub loop-start-preserved : goal.loop-start-preserved
loop-start-preserved c =
    let l = c.loop-start in
    let next : suc (l.start - 1) ≡ l.start = omega arith in
    last_digits_more (l.start - 1) l.left _ l.out c.last_digit.ensures (omega arith)
    ∙ ap (λ (k : ℕ). last_digits k l.left ++ drop k l.out) next
    ∙ l.invariant

pub returns : goal.returns
unfolding last_digits
returns c =
    let all : c.loop-start.start ≡ 0 = omega arith in
    rw all at c.loop-start.invariant
