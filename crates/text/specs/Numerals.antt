-- Numbers in decimal: what the digits of a number are (01, "What is turned down", Lister: digits, no needless leading 0).
--
--   value v bytes     == the value of the digits `bytes` after digits of value v, read in decimal
--   IsNumeral n bytes == the bytes are digits, their value is n, and the first is 0 only where n is 0, and then it stands alone
--   Numerals          == `decimal` gives this, for every number of at most ten digits
use Rattle.std.specs.Prelude.{◌≡◌, List, [], ◌∷◌, ℕ, ◌+◌, ◌-◌, ◌*◌, ◌^◌, ◌<◌, ◌≤◌, length, get_or}
use Rattle.text.specs.Decimal.{digit, decimal}

unfoldable pub value : ℕ → List ℕ → ℕ
value v [] = v
value v (b ∷ bytes) = value (v * 10 + (b - digit 0)) bytes

pub record IsNumeral (n : ℕ) (bytes : List ℕ) : Type 0 where
  pub digits : (i : ℕ) → i < length bytes → (digit 0 ≤ get_or bytes i 0) × (get_or bytes i 0 ≤ digit 9)
  pub value_is : value 0 bytes ≡ n
  pub alone : n ≡ 0 → bytes ≡ digit 0 ∷ []
  pub leads : 0 < n → digit 0 < get_or bytes 0 0

abbrev pub Numerals : Type 0
Numerals = (n : ℕ) → n < 10 ^ 10 → IsNumeral n (decimal n)
