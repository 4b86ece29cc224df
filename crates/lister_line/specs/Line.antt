-- A line of ten numbers (01, "What is turned down", Lister): each of 1 to 5 digits, no needless leading 0, one space
-- between, one line feed at the end, nothing after it. A space is 32, a line feed 10.
--
--   written ns      == the decimals of ns, one space between, one line feed at the end
--   IsLine input ns == the input is the line of the ten numbers ns, each of 1 to 5 digits
--   line_of input    == the line that the input is read as, byte by byte: ok where it is one, with its ten numbers
--   Lines           == exactly the lines of ten numbers are read, each as its own numbers
use Rattle.std.specs.Prelude.{◌≡◌, true, false, ◌&&◌, ◌↔◌, List, [], ◌∷◌, ◌++◌, ℕ, eqb, length}
use Rattle.algebra.specs.Lists.{AllBelow}
use Rattle.text.specs.Decimal.{decimal}
use Rattle.lister_line.specs.declared.Line.{Line}
use Rattle.lister_line.specs.Internal.{nothing, run}

unfoldable pub written : List ℕ → List ℕ
written [] = []
written (n ∷ []) = decimal n ++ (10 ∷ [])
written (n ∷ m ∷ ns) = decimal n ++ (32 ∷ written (m ∷ ns))

pub record IsLine (input ns : List ℕ) : Type 0 where
  pub ten : length ns ≡ 10
  -- of 1 to 5 digits
  pub short : AllBelow 100000 ns
  pub is : input ≡ written ns

unfoldable pub line_of : List ℕ → Line
line_of input = let p = run nothing input in record { ok = p.ok && eqb p.count 10; numbers = p.numbers }

pub record Lines : Type 0 where
  pub accepted : (input ns : List ℕ) → (line_of input ≡ record { ok = true; numbers = ns }) ↔ IsLine input ns
  -- "26 ..: input is not ten numbers of 1 to 5 digits, no needless leading 0, one space between, one LF at the end"
  pub refused : (input : List ℕ) → ((line_of input).ok ≡ false) ↔ ((ns : List ℕ) → IsLine input ns → ⊥)
