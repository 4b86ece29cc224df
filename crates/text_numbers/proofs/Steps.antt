-- Laws of one byte's reading.
--
--   fits_digit, after_digit                    where a digit fits, and the part after it
--   ended_one, ended_none                      the number that a byte ends, and where it ends none
--   taken_one, taken_none                      such a byte, where it is no fault
--   refused_byte, refused_room                 a fault: the byte does not fit, or the number has no room
--   reached_on, found_on                       what is read after a byte that is no fault
--   reached_off, found_off                     at a fault nothing
use mathlib.Core.Path.{◌≡◌}
use mathlib.Core.Bool.{true, false}
use mathlib.Core.List.{List, [], ◌∷◌, ◌++◌}
use Prim.Native.Nat.{ℕ, suc, ◌-◌, ◌^◌, ◌<◌}
use native.Mathlib.Omega.{arith}
use lib.Dec.{ltb}
use lib.ListN.{length}
use borrow.Author.Tests.{le-leb, lt-leb}
use Rattle.text_numbers.specs.declared.Part.{Part}
use Rattle.text_numbers.specs.Numbers.{is_digit, number, in_comment, value_of, grown, fits, after, ends, ended, taken, reached, found}

module _ (part : Part) (b : ℕ) where
  pub fits_digit : in_comment part ≡ false → is_digit b ≡ true → fits part b ≡ ltb (grown part b) (2 ^ 32)
  unfolding fits
  fits_digit c d = rw (c, d)

  pub after_digit : in_comment part ≡ false → is_digit b ≡ true → after part b ≡ number (grown part b)
  unfolding after
  after_digit c d = rw (c, d)

  pub ended_one : ends part b ≡ true → ended part b ≡ value_of part ∷ []
  unfolding ended
  ended_one e = rw e

  pub ended_none : ends part b ≡ false → ended part b ≡ []
  unfolding ended
  ended_none e = rw e

module _ (part : Part) (room b : ℕ) where
  pub taken_one : fits part b ≡ true → ends part b ≡ true → 0 < room → taken part room b ≡ true
  unfolding taken
  taken_one ok e h = rw (ok, ended_one part b e) (le-leb 1 room h)

  pub taken_none : fits part b ≡ true → ends part b ≡ false → taken part room b ≡ true
  unfolding taken
  taken_none ok e = rw (ok, ended_none part b e) (le-leb 0 room (omega arith))

  pub refused_byte : fits part b ≡ false → taken part room b ≡ false
  unfolding taken
  refused_byte e = rw e

  pub refused_room : fits part b ≡ true → ends part b ≡ true → room ≡ 0 → taken part room b ≡ false
  unfolding taken
  refused_room ok e none = rw (ok, ended_one part b e) (lt-leb 1 room (omega arith))

module _ (part : Part) (room b : ℕ) (bs : List ℕ) where
  pub reached_on : taken part room b ≡ true → reached part room (b ∷ bs) ≡ suc (reached (after part b) (room - length (ended part b)) bs)
  unfolding reached
  reached_on e = rw e

  pub found_on : taken part room b ≡ true → found part room (b ∷ bs) ≡ ended part b ++ found (after part b) (room - length (ended part b)) bs
  unfolding found
  found_on e = rw e

  pub reached_off : taken part room b ≡ false → reached part room (b ∷ bs) ≡ 0
  unfolding reached
  reached_off e = rw e

  pub found_off : taken part room b ≡ false → found part room (b ∷ bs) ≡ []
  unfolding found
  found_off e = rw e
