-- `text::put_last_digits` meets its contract.
use Rattle.std.proofs.Common.{◌≡◌, ◌++◌, length, drop}
use Rattle.text.specs.Internal.{last_digits}
use Rattle.text.proofs.put_last_digits.Given as goal

abbrev pub invariant-loop-start : goal.invariant-loop-start
invariant-loop-start l = last_digits l.start l.left ++ drop l.start l.out ≡ last_digits (length l.initial.out) l.n
