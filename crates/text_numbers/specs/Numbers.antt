-- Whole numbers in plain text.
--
-- The format: whole numbers in decimal, set apart by white space: space (32), tab (9), line feed (10), carriage return (13).
-- A # (35) begins a comment, which goes to the end of its line, a line feed or a carriage return; it may follow a number
-- directly. A number is one or more digits (48 to 57); leading zeros are allowed, and its value must be below 2^32. The end
-- of the text ends a number too, as one more line feed would.
-- Outside a comment, a fault is any other byte, a digit by which a value would reach 2^32, and a byte that ends a number for
-- which there is no room. A fault is told by its offset in the text, counted from 0.
--
--   within low high b      == b is low to high
--   is_digit b              == b is the byte of a digit
--   ends_line b             == b is a line feed or a carriage return
--   sets_apart b            == b may stand between numbers: white space, or the # of a comment
--   Part                   == where in a text a byte stands: in a comment, in none and in no number, or after some digits of a
--                             number, with their value
--   in_comment part        == the part is in a comment
--   has_digits part        == the part is after some digits of a number
--   value_of part          == their value, or 0
--   apart comment          == a part outside numbers: in a comment, or in none
--   number v               == a part after the digits of a number, of value v
--   grown part b           == the value with the digit b after the others
--   fits part b            == b is no fault in that part, room aside
--   after part b           == the part after b, where b fits
--   ends part b            == b ends a number
--   ended part b           == the number that b ends, where it ends one
--   taken part room b      == b is no fault in that part, with room for so many numbers
--   reached part room bs   == how many of the bytes bs stand before the first fault; all, where there is none
--   found part room bs     == the numbers that end before the first fault
--   closed text            == the text and one more line feed
--   reach text room        == the offset of the first fault; one more than the text's length, where there is none
--   numbers_of text room    == the numbers of the text that end before the first fault; all, where there is none
--   read_outcome text room  == what reading a text returns: how many numbers, or the offset of the first fault
--   front ns out           == the output with the numbers ns at its front, and past them what it held
--   written ns             == the text of the numbers ns: each in decimal, with a line feed after it
use Rattle.std.specs.Prelude.{Bool, true, false, not, cond, ◌&&◌, ◌||◌, List, [], ◌∷◌, ◌++◌, ℕ, suc, ◌+◌, ◌-◌, ◌*◌, ◌^◌, ltb, leb, eqb, length, drop, Result, Ok, Err}
use Rattle.text_numbers.specs.declared.Fault.{Fault}
use Rattle.text_numbers.specs.declared.Part.{Part}
use Rattle.text_numbers.specs.declared.Part.TheVariants.{Comment, Gap, Number}
use Rattle.text.specs.Decimal.{decimal}

unfoldable pub within : ℕ → ℕ → ℕ → Bool
within low high b = leb low b && leb b high

unfoldable pub is_digit : ℕ → Bool
is_digit b = within 48 57 b

unfoldable pub ends_line : ℕ → Bool
ends_line b = eqb b 10 || eqb b 13

unfoldable pub sets_apart : ℕ → Bool
sets_apart b = eqb b 32 || eqb b 9 || eqb b 10 || eqb b 13 || eqb b 35

unfoldable pub apart : Bool → Part
apart comment = cond comment Comment Gap

unfoldable pub number : ℕ → Part
number v = Number v

unfoldable pub in_comment : Part → Bool
in_comment Comment = true
in_comment Gap = false
in_comment (Number v) = false

unfoldable pub has_digits : Part → Bool
has_digits Comment = false
has_digits Gap = false
has_digits (Number v) = true

unfoldable pub value_of : Part → ℕ
value_of Comment = 0
value_of Gap = 0
value_of (Number v) = v

unfoldable pub grown : Part → ℕ → ℕ
grown part b = value_of part * 10 + (b - 48)

unfoldable pub fits : Part → ℕ → Bool
fits part b = in_comment part || cond (is_digit b) (ltb (grown part b) (2 ^ 32)) (sets_apart b)

unfoldable pub after : Part → ℕ → Part
after part b =
    cond (in_comment part) (apart (not (ends_line b))) (cond (is_digit b) (number (grown part b)) (apart (eqb b 35)))

unfoldable pub ends : Part → ℕ → Bool
ends part b = has_digits part && not (is_digit b)

unfoldable pub ended : Part → ℕ → List ℕ
ended part b = cond (ends part b) (value_of part ∷ []) []

unfoldable pub taken : Part → ℕ → ℕ → Bool
taken part room b = fits part b && leb (length (ended part b)) room

unfoldable pub reached : Part → ℕ → List ℕ → ℕ
reached part room [] = 0
reached part room (b ∷ bs) = cond (taken part room b) (suc (reached (after part b) (room - length (ended part b)) bs)) 0

unfoldable pub found : Part → ℕ → List ℕ → List ℕ
found part room [] = []
found part room (b ∷ bs) = cond (taken part room b) (ended part b ++ found (after part b) (room - length (ended part b)) bs) []

unfoldable pub closed : List ℕ → List ℕ
closed text = text ++ (10 ∷ [])

unfoldable pub reach : List ℕ → ℕ → ℕ
reach text room = reached (apart false) room (closed text)

unfoldable pub numbers_of : List ℕ → ℕ → List ℕ
numbers_of text room = found (apart false) room (closed text)

unfoldable pub read_outcome : List ℕ → ℕ → Result ℕ Fault
read_outcome text room =
    cond (leb (reach text room) (length text)) (Err (record { at = reach text room })) (Ok (length (numbers_of text room)))

unfoldable pub front : List ℕ → List ℕ → List ℕ
front ns out = ns ++ drop (length ns) out

unfoldable pub written : List ℕ → List ℕ
written [] = []
written (n ∷ ns) = decimal n ++ (10 ∷ written ns)
