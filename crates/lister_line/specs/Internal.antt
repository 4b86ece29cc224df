-- How a line is read, byte by byte: the code's own way. What it comes to is said in specs/Line.antt.
--
--   separator k     == the byte after number k, with k from 0: a space, and a line feed after the tenth
--   nothing         == the progress before the first byte
--   begun p         == the present number is begun
--   value p         == it, or 0 where it is not begun
--   is_digit b       == b is the byte of a digit
--   goes_on p        == the line has no fault so far, and is not at its end
--   grows p         == the present number may have a further digit: it has at most 4, and is not a 0
--   takes_digit p b  == b is a further digit of the present number
--   takes_end p b    == b ends the present number
--   with_digit p b   == the progress after that digit
--   with_end p       == the progress after that end
--   refused p       == the progress after any other byte
--   step p b        == the progress after the byte b
--   run p bytes     == the progress after the bytes
use Rattle.std.specs.Prelude.{Bool, true, false, not, cond, ◌&&◌, ◌||◌, List, [], ◌∷◌, ℕ, ◌+◌, ◌-◌, ◌*◌, ltb, leb, eqb, set, replicate, Some, None, is_some, unwrap_or}
use Rattle.lister_line.specs.declared.Progress.{Progress}

unfoldable pub separator : ℕ → ℕ
separator k = cond (eqb k 9) 10 32

unfoldable pub nothing : Progress
nothing = record { ok = true; present = None; count = 0; numbers = replicate 10 0 }

abbrev pub begun : Progress → Bool
begun p = is_some p.present

abbrev pub value : Progress → ℕ
value p = unwrap_or p.present 0

unfoldable pub is_digit : ℕ → Bool
is_digit b = leb 48 b && leb b 57

unfoldable pub goes_on : Progress → Bool
goes_on p = p.ok && ltb p.count 10

unfoldable pub grows : Progress → Bool
grows p = ltb (value p) 10000 && (not (begun p) || ltb 0 (value p))

unfoldable pub takes_digit : Progress → ℕ → Bool
takes_digit p b = goes_on p && is_digit b && grows p

unfoldable pub takes_end : Progress → ℕ → Bool
takes_end p b = goes_on p && begun p && eqb b (separator p.count)

unfoldable pub with_digit : Progress → ℕ → Progress
with_digit p b = record { ok = p.ok; present = Some (value p * 10 + (b - 48)); count = p.count; numbers = p.numbers }

unfoldable pub with_end : Progress → Progress
with_end p = record { ok = p.ok; present = None; count = p.count + 1; numbers = set p.numbers p.count (value p) }

unfoldable pub refused : Progress → Progress
refused p = record { ok = false; present = p.present; count = p.count; numbers = p.numbers }

unfoldable pub step : Progress → ℕ → Progress
step p b = cond (takes_digit p b) (with_digit p b) (cond (takes_end p b) (with_end p) (refused p))

unfoldable pub run : Progress → List ℕ → Progress
run p [] = p
run p (b ∷ bytes) = run (step p b) bytes
