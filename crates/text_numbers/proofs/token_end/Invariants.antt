-- `text_numbers::token_end` meets its contract.
use Rattle.std.proofs.Common.{◌≡◌, ◌+◌, drop}
use Rattle.text_numbers.specs.Words.{token_end}
use Rattle.text_numbers.proofs.token_end.Given as goal

abbrev pub invariant-loop-i : goal.invariant-loop-i
invariant-loop-i l = token_end l.text ≡ l.i + token_end (drop l.i l.text)
