-- The last digits of a number; bytes put into a buffer; and text written on a cursor, as a fact of the cursor before and after.
--
--   last_digits k n        == the last k digits of n, with zeros in front where it has fewer
--   fits buffer at bytes  == the bytes have room in the buffer from offset `at` on
--   put buffer at bytes   == the buffer with the bytes from offset `at` on where they fit, and as it was where they do not
--   put_last buffer text   == the buffer with the text at its end; of a text that is longer, its last bytes
--   Writes w text w' == where the text has room from the cursor w on, w' is w with the text there, behind it; in any case the
--                       cursor keeps its buffer, the buffer its length, and the offset does not leave the buffer
use Rattle.std.specs.Prelude.{◌≡◌, Bool, cond, List, [], ◌∷◌, ◌++◌, ℕ, zero, suc, ◌+◌, ◌-◌, ◌/◌, ◌%◌, ◌≤◌, leb, length, take, drop}
use Rattle.text.specs.declared.Writer.{Writer}
use Rattle.text.specs.Decimal.{digit}

unfoldable pub last_digits : ℕ → ℕ → List ℕ
last_digits zero n = []
last_digits (suc k) n = last_digits k (n / 10) ++ (digit (n % 10) ∷ [])

unfoldable pub fits : List ℕ → ℕ → List ℕ → Bool
fits buffer at bytes = leb (at + length bytes) (length buffer)

unfoldable pub put : List ℕ → ℕ → List ℕ → List ℕ
put buffer at bytes = cond (fits buffer at bytes) (take at buffer ++ bytes ++ drop (at + length bytes) buffer) buffer

unfoldable pub put_last : List ℕ → List ℕ → List ℕ
put_last buffer text = take (length buffer - length text) buffer ++ drop (length text - length buffer) text

pub record Writes (w : Writer) (text : List ℕ) (w' : Writer) : Type 0 where
  pub same_reference : w'.out.ghost_name ≡ w.out.ghost_name
  pub kept : length w'.out.now ≡ length w.out.now
  pub within : w.at ≤ length w.out.now → w'.at ≤ length w.out.now
  pub is : w.at + length text ≤ length w.out.now → w'.out.now ≡ put w.out.now w.at text
  pub behind : w.at + length text ≤ length w.out.now → w'.at ≡ w.at + length text
