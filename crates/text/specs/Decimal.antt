-- Decimal numbers in ASCII.
--
--   digit d    == the byte of the digit d: that of 0 is 48
--   spell k n  == the digits of n, with no needless leading 0, where n has at most k of them
--   decimal n  == the digits of n, for n of at most ten digits; those of 0 are `0`
use Rattle.std.specs.Prelude.{cond, List, [], ◌∷◌, ◌++◌, ℕ, zero, suc, ◌+◌, ◌/◌, ◌%◌, ltb}

unfoldable pub digit : ℕ → ℕ
digit d = 48 + d

unfoldable pub spell : ℕ → ℕ → List ℕ
spell zero n = []
spell (suc k) n =
    let more = spell k (n / 10) ++ (digit (n % 10) ∷ []) in
    cond (ltb n 10) (digit n ∷ []) more

unfoldable pub decimal : ℕ → List ℕ
decimal n = spell 10 n
