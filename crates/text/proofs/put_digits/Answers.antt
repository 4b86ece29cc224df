-- `text::put_digits` meets its contract.
use Rattle.std.proofs.Common.{◌≡◌, ℕ, suc, ◌-◌, ◌<◌, arith}
use Rattle.text.proofs.Decimals.{digits_start, digits_more, digits_last, digits_first, digits_over, digits_cut}
use Rattle.text.proofs.put_digits.Goals as goal

pub loop-start-init : goal.loop-start-init
loop-start-init c = digits_start c.args.n c.args.out.now (omega arith)

-- the place of the next digit
place : (start : ℕ) → 0 < start → suc (start - 1) ≡ start
place start h = omega arith

pub returns-then-rest-lt10 : goal.returns-then-rest-lt10
returns-then-rest-lt10 c =
    let l = c.loop-start in
    let next = place l.start (omega arith) in
    record {
      start = digits_first l.invariant (l.start - 1) next (omega arith);
      digits = digits_last l.invariant (l.start - 1) next _ c.last_digit.ensures (omega arith);
    }

pub loop-start-preserved : goal.loop-start-preserved
loop-start-preserved c =
    let l = c.loop-start in
    digits_more l.invariant (l.start - 1) (place l.start (omega arith)) _ c.last_digit.ensures (omega arith)

pub returns : goal.returns
returns c =
    let l = c.loop-start in
    let none : l.start ≡ 0 = omega arith in record { start = omega (arith, digits_over l.invariant none); digits = digits_cut l.invariant none }
