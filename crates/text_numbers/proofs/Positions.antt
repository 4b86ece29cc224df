-- Laws of positions in a text.
--
--   moved_feed, moved_end, moved_other    the position after a line feed that a carriage return is before, after another line
--                                         end, and after any other byte
--   moved_short                           a byte moves line and column on by 1 at most
--   counted                               the position after some bytes
--   Counted                               the first i of them, counted
--   counted_none                          no byte
--   counted_more                          one byte more
--   counted_all                           all of them
--   counted_is                            those before an offset
use mathlib.Core.Path.{◌≡◌, refl, sym, ap, ◌∙◌}
use mathlib.Core.Bool.{true, false}
use mathlib.Core.Logic.{⊎_elim}
use mathlib.Core.List.{List, []}
use Prim.Native.Nat.{ℕ, ◌+◌, ◌<◌, ◌≤◌}
use native.Mathlib.Numerals.{add-one}
use native.Mathlib.Omega.{arith}
use lib.ListN.{length, get_or, take, drop, drop_of_length-le}
use lib.Seq.{drop-cons}
use Rattle.algebra.proofs.Tests.{by_test}
use Rattle.text_numbers.specs.declared.Position.{Position}
use Rattle.text_numbers.specs.Numbers.{ends_line}
use Rattle.text_numbers.specs.Positions.{paired, moved, position_from, position_of}

module _ (before : ℕ) (position : Position) (b : ℕ) where
  pub moved_feed : paired before b ≡ true → moved before position b ≡ position
  unfolding moved
  moved_feed e = rw e

  pub moved_end : paired before b ≡ false → ends_line b ≡ true
      → moved before position b ≡ record { line = position.line + 1; column = 1 }
  unfolding moved
  moved_end e l = rw (e, l)

  pub moved_other : paired before b ≡ false → ends_line b ≡ false
      → moved before position b ≡ record { line = position.line; column = position.column + 1 }
  unfolding moved
  moved_other e l = rw (e, l)

  pub moved_short : (n : ℕ) → (position.line ≤ n) × (position.column ≤ n)
      → ((moved before position b).line ≤ n + 1) × ((moved before position b).column ≤ n + 1)
  moved_short n h =
      ⊎_elim
      (λ (e : paired before b ≡ true). rw (moved_feed e) (omega arith, omega arith))
      (λ (e : paired before b ≡ false).
      ⊎_elim
      (λ (l : ends_line b ≡ true). rw (moved_end e l) (omega arith, omega arith))
      (λ (l : ends_line b ≡ false). rw (moved_other e l) (omega arith, omega arith))
      (by_test (ends_line b)))
      (by_test (paired before b))

-- The position after some bytes, from the front of a text on.
pub counted : List ℕ → Position
counted bytes = position_from 0 (record { line = 1; column = 1 }) bytes

-- The first i of the bytes, counted.
pub record Counted (bytes : List ℕ) (before : ℕ) (position : Position) (i : ℕ) : Type 0 where
  pub short : (position.line ≤ i + 1) × (position.column ≤ i + 1)
  pub on : counted bytes ≡ position_from before position (drop i bytes)

pub counted_none : (bytes : List ℕ) → Counted bytes 0 (record { line = 1; column = 1 }) 0
unfolding counted
counted_none bytes = record { short = (omega arith, omega arith); on = refl }

module _ {bytes : List ℕ} {before : ℕ} {position : Position} {i : ℕ} (c : Counted bytes before position i) where
  pub counted_more : i < length bytes → Counted bytes (get_or bytes i 0) (moved before position (get_or bytes i 0)) (i + 1)
  unfolding position_from
  counted_more h = record {
    short = moved_short before position (get_or bytes i 0) (i + 1) c.short;
    on = rw (add-one i) (c.on ∙ ap (position_from before position) (drop-cons bytes i 0 h));
  }

  pub counted_all : i ≡ length bytes → position ≡ counted bytes
  unfolding position_from
  counted_all e =
      let past : drop i bytes ≡ [] = drop_of_length-le bytes {i = i} (omega arith) in
      sym (c.on ∙ ap (position_from before position) past)

pub counted_is : (text : List ℕ) (at : ℕ) → counted (take at text) ≡ position_of text at
unfolding counted position_of
counted_is text at = refl
