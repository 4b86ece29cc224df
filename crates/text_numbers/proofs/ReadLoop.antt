-- A loop reads a text byte by byte, and writes its numbers to the front of an output.
--
--   Read-on                   n numbers are read of the first i bytes: the output has them, and past them what it held
--   read_none                 no byte
--   read_more, read_number    one byte more, which ends no number, and which ends one
--   read_fault                a byte that is a fault
--   read_all                  all the bytes
use mathlib.Core.Path.{◌≡◌, refl, sym, ap, ◌∙◌}
use Rattle.std.proofs.Common.{Ok, Err}
use mathlib.Core.Bool.{true, false}
use mathlib.Core.List.{List, [], ◌∷◌, ◌++◌, append-nil, append_assoc}
use Prim.Native.Nat.{ℕ, suc, ◌+◌, ◌-◌, ◌<◌, ◌≤◌}
use native.Mathlib.Numerals.{add-one}
use native.Mathlib.Omega.{arith}
use lib.ListN.{length, get_or, take, drop, set, take-append-drop, length-append, length-set, drop_of_length-le}
use lib.Seq.{length-take-le, take-suc-set, drop-set-lt, drop-drop}
use borrow.Author.Tests.{le-leb, lt-leb}
use Rattle.text_numbers.specs.declared.Part.{Part}
use Rattle.text_numbers.specs.Numbers.{apart, value_of, fits, after, ends, ended, taken, reached, found, closed, reach, numbers_of, read_outcome, front}
use Rattle.text_numbers.proofs.Texts.{closed_byte}
use Rattle.text_numbers.proofs.Steps.{ended_one, ended_none, taken_one, taken_none, reached_on, found_on, reached_off, found_off}

pub record Read-on (text out₀ out : List ℕ) (part : Part) (n i : ℕ) : Type 0 where
  pub room : n ≤ length out₀
  pub same : length out ≡ length out₀
  pub old : drop n out ≡ drop n out₀
  pub to : reach text (length out₀) ≡ i + reached part (length out₀ - n) (drop i (closed text))
  pub numbers : numbers_of text (length out₀) ≡ take n out ++ found part (length out₀ - n) (drop i (closed text))

pub read_none : (text out : List ℕ) → Read-on text out out (apart false) 0 0
unfolding reach numbers_of
read_none text out =
    let all : length out - 0 ≡ length out = omega arith in
    record {
      room = omega arith;
      same = refl;
      old = refl;
      to = rw all (omega arith);
      numbers = rw all;
    }

module _ {text out₀ out : List ℕ} {part : Part} {n i : ℕ} (r : Read-on text out₀ out part n i) where
  -- how many numbers the output has, and what stands past them
  many : length (take n out) ≡ n
  many = length-take-le n out (omega (arith, r.room, r.same))

  whole : numbers_of text (length out₀) ≡ take n out → out ≡ front (numbers_of text (length out₀)) out₀
  unfolding front
  whole e = rw (e, many) (sym (ap (λ (xs : List ℕ). take n out ++ xs) (sym r.old) ∙ take-append-drop n out))

  pub read_all : i ≡ length text + 1
      → (Ok n ≡ read_outcome text (length out₀)) × (out ≡ front (numbers_of text (length out₀)) out₀)
  unfolding read_outcome closed reached found
  read_all e =
      let past : drop i (closed text) ≡ [] = drop_of_length-le (closed text) {i = i} (omega (arith, length-append text (10 ∷ []))) in
      let here : reach text (length out₀) ≡ i = r.to ∙ rw past (omega arith) in
      let these : numbers_of text (length out₀) ≡ take n out = r.numbers ∙ rw past (append-nil (take n out)) in
      (rw (here, lt-leb i (length text) (omega arith), these, many), whole these)

module _ {text out₀ out : List ℕ} {part : Part} {n i : ℕ} (r : Read-on text out₀ out part n i) (within : i ≤ length text)
    (b : ℕ) (is : b ≡ get_or text i 10) where
  -- the bytes after b, and the room
  rest : List ℕ
  rest = drop (suc i) (closed text)

  left : ℕ
  left = length out₀ - n

  bytes : drop i (closed text) ≡ b ∷ rest
  unfolding rest
  bytes = rw is (closed_byte text i within)

  -- what is read, with b
  to_on : taken part left b ≡ true → reach text (length out₀) ≡ suc i + reached (after part b) (left - length (ended part b)) rest
  unfolding left
  to_on ok = r.to ∙ rw bytes (omega (arith, reached_on part left b rest ok))

  numbers_on : taken part left b ≡ true
      → numbers_of text (length out₀) ≡ take n out ++ ended part b ++ found (after part b) (left - length (ended part b)) rest
  unfolding left
  numbers_on ok =
      r.numbers
      ∙ rw (bytes, found_on part left b rest ok) (sym (append_assoc (take n out) (ended part b) (found (after part b) (left - length (ended part b)) rest)))

  pub read_more : fits part b ≡ true → ends part b ≡ false → Read-on text out₀ out (after part b) n (i + 1)
  unfolding rest left
  read_more ok e =
      let t = taken_none part left b ok e in
      let none = ended_none part b e in
      let all : length out₀ - n - 0 ≡ length out₀ - n = omega arith in
      record {
        room = r.room;
        same = r.same;
        old = r.old;
        to = rw add-one (rw (none, all) at (to_on t));
        numbers = rw add-one (rw (none, all, append-nil (take n out)) at (numbers_on t));
      }

  pub read_number : fits part b ≡ true → ends part b ≡ true → n < length out₀
      → Read-on text out₀ (set out n (value_of part)) (after part b) (n + 1) (i + 1)
  unfolding rest left
  read_number ok e h =
      let t = taken_one part left b ok e (omega arith) in
      let one = ended_one part b e in
      let less : length out₀ - n - 1 ≡ length out₀ - suc n = omega arith in
      let inside : n < length out = omega (arith, r.same) in
      record {
        room = omega arith;
        same = length-set out n (value_of part) ∙ r.same;
        old = drop-set-lt (n + 1) out n (value_of part) (omega arith) ∙ sym (drop-drop 1 n out) ∙ ap (drop 1) r.old ∙ drop-drop 1 n out₀;
        to = rw (add-one, add-one) (rw (one, less) at (to_on t));
        numbers = rw (add-one, add-one, take-suc-set out n (value_of part) inside) (rw (one, less) at (numbers_on t));
      }

  pub read_fault : taken part (length out₀ - n) b ≡ false
      → (Err (record { at = i }) ≡ read_outcome text (length out₀)) × (out ≡ front (numbers_of text (length out₀)) out₀)
  unfolding read_outcome left
  read_fault off =
      let here : reach text (length out₀) ≡ i = r.to ∙ rw (bytes, reached_off part left b rest off) (omega arith) in
      let these : numbers_of text (length out₀) ≡ take n out = r.numbers ∙ rw (bytes, found_off part left b rest off) (append-nil (take n out)) in
      (rw (here, le-leb i (length text) within), whole r these)
