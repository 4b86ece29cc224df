-- `text::put_digits` meets its contract.
use Rattle.text.proofs.Decimals.{Digits}
use Rattle.text.proofs.put_digits.Given as goal

abbrev pub invariant-loop-start : goal.invariant-loop-start
invariant-loop-start l = Digits l.n l.initial.out l.out l.start l.rest
