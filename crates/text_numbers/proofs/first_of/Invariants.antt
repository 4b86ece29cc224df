-- `text_numbers::first_of` meets its contract.
use Rattle.std.proofs.Common.{◌≡◌, ◌+◌, ℕ, Bool, drop}
use Rattle.text_numbers.specs.Words.{gap, begins, first_from}
use Rattle.text_numbers.proofs.first_of.Given as goal

abbrev pub invariant-loop-i : goal.invariant-loop-i
invariant-loop-i g l =
    (words : Bool) → ((b : ℕ) (r : Bool) → goal.F-post g l.is_first b r → r ≡ begins words gap b)
    → first_from words gap l.text ≡ l.i + first_from words l.before (drop l.i l.text)
