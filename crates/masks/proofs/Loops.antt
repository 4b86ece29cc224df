-- Loops over the words.
--
--   usable_at, skipped_at       a word up to the last that is usable, and one past it
--   Counted                     n of the first i words are usable
--   counted_usable, counted_skipped, counted_all  one word more, and all
--   Searched                    the words up to `end` are looked at, and so many elements are left to fill
--   searched_part               as many words more as there are elements left
--   searched_few, searched_all  too few words are left, or no element
--   Put                         all words but the last ones, `rest`, are written: the first n elements of the output are their remainders
--   put_usable, put_skipped, put_all  the same, of writing
--   put_room                    there is room for the remainder of a usable word
--   put_full                    where all words are usable, the next one is
--   part_room, put_part         some words more at once: there is room for their remainders
use mathlib.Core.Path.{◌≡◌, sym, ap, ◌∙◌}
use mathlib.Core.Bool.{true, false}
use mathlib.Core.List.{List, [], ◌∷◌, ◌++◌, append-nil, append_assoc}
use Prim.Native.Nat.{ℕ, suc, ◌+◌, ◌-◌, ◌%◌, ◌<◌, ◌≤◌}
use native.Mathlib.Numerals.{add-one}
use native.Mathlib.Omega.{arith}
use lib.ListN.{length, get_or, take, drop, set, length-set, length-append, length-drop, drop_of_length-le}
use lib.Seq.{drop-cons, drop-drop, length-take-le, take_all, take_at, take-suc-set}
use borrow.Author.Tests.{lt-ltb, le-ltb}
use Rattle.std.proofs.lemmas.List.{nil_from_length}
use Rattle.masks.specs.Drawing.{limit, usable, kept, used}
use Rattle.masks.proofs.Steps.{kept_usable, kept_skipped, kept_few, kept_append, kept_part, kept_full, used_part}

module _ (q w : ℕ) {last : ℕ} (e : last + 1 ≡ limit q) where
  pub usable_at : w ≤ last → usable q w ≡ true
  unfolding usable
  usable_at l = lt-ltb w (limit q) (omega arith)

  pub skipped_at : last < w → usable q w ≡ false
  unfolding usable
  skipped_at l = le-ltb w (limit q) (omega arith)

-- ---- words that are counted

abbrev pub Counted : ℕ → List ℕ → ℕ → ℕ → Type 0
Counted q words n i = length (kept q words) ≡ n + length (kept q (drop i words))

module _ (q : ℕ) (words : List ℕ) (n i : ℕ) (c : Counted q words n i) where
  pub counted_all : length words ≤ i → n ≡ length (kept q words)
  unfolding kept
  counted_all l =
      let past : drop i words ≡ [] = drop_of_length-le words {i = i} l in
      sym (c ∙ rw past (omega arith))

  module _ (h : i < length words) where
    rest : drop i words ≡ get_or words i 0 ∷ drop (suc i) words
    rest = drop-cons words i 0 h

    pub counted_usable : usable q (get_or words i 0) ≡ true → Counted q words (n + 1) (i + 1)
    counted_usable e = rw (add-one, add-one) (c ∙ rw (rest, kept_usable q (get_or words i 0) (drop (suc i) words) e) (omega arith))

    pub counted_skipped : usable q (get_or words i 0) ≡ false → Counted q words n (i + 1)
    counted_skipped e = rw add-one (c ∙ rw (rest, kept_skipped q (get_or words i 0) (drop (suc i) words) e))

-- ---- words that are looked for

pub record Searched (q wanted : ℕ) (words : List ℕ) (left end : ℕ) : Type 0 where
  pub to : used q wanted words ≡ end + used q left (drop end words)
  pub has : length (kept q words) + left ≡ wanted + length (kept q (drop end words))

module _ {q wanted : ℕ} {words : List ℕ} {left end : ℕ} (s : Searched q wanted words left end) where
  pub searched_all : left ≡ 0 → (end ≡ used q wanted words) × (wanted ≤ length (kept q words))
  unfolding used
  searched_all e = (sym (s.to ∙ rw e (omega arith)), omega (arith, s.has))

  pub searched_few : length words - end < left → length (kept q words) < wanted
  searched_few l = omega (arith, s.has, kept_few q (drop end words), length-drop end words)

  pub searched_part : end + left ≤ length words → {n : ℕ} → n ≡ length (kept q (take left (drop end words))) → Searched q wanted words (left - n) (end + left)
  searched_part l {n} e =
      let rest = drop end words in
      let later : drop left rest ≡ drop (end + left) words = drop-drop left end words in
      let size : left ≤ length rest = omega (arith, length-drop end words) in
      let few : n ≤ left = omega (arith, e, kept_few q (take left rest), length-take-le left rest size) in
      record {
        to = s.to ∙ rw (used_part q left left rest (omega arith) size, ← e, later) (omega arith);
        has = rw (← later) (omega (arith, s.has, e, few, ap length (kept_part q left rest) ∙ length-append (kept q (take left rest)) (kept q (drop left rest))));
      }

-- ---- words that are written

pub record Put (q : ℕ) (words out : List ℕ) (n : ℕ) (rest : List ℕ) : Type 0 where
  pub room : length out ≡ n + length (kept q rest)
  pub is : kept q words ≡ take n out ++ kept q rest

module _ {q : ℕ} {words out : List ℕ} {n : ℕ} {rest : List ℕ} (p : Put q words out n rest) where
  pub put_all : length rest ≡ 0 → out ≡ kept q words
  unfolding kept
  put_all e =
      let none : rest ≡ [] = nil_from_length rest e in
      let full : length out ≡ n = p.room ∙ rw none (omega arith) in
      sym (p.is ∙ rw none (append-nil (take n out)) ∙ take_all n out (omega arith))

  -- some words more at once: there is room for their remainders
  module _ (part later : List ℕ) (parts : rest ≡ part ++ later) {c : ℕ} (size : c ≡ length (kept q part)) where
    both : kept q rest ≡ kept q part ++ kept q later
    both = ap (kept q) parts ∙ kept_append q part later

    pub part_room : n + c ≤ length out
    part_room = omega (arith, p.room, size, ap length both ∙ length-append (kept q part) (kept q later))

    pub put_part : {made : List ℕ} → made ≡ kept q part → Put q words (take n out ++ (made ++ drop c (drop n out))) (n + c) later
    put_part is =
        let tail = drop c (drop n out) in
        let now = kept q part in
        let front : length (take n out) ≡ n = length-take-le n out (omega (arith, part_room)) in
        let whole : take n out ++ (now ++ tail) ≡ (take n out ++ now) ++ tail = sym (append_assoc (take n out) now tail) in
        let front-size : length (take n out ++ now) ≡ n + c = omega (arith, length-append (take n out) now, front, size) in
        rw (is, whole) (record {
          room = omega (arith, length-append (take n out ++ now) tail, front-size, length-drop c (drop n out), length-drop n out, part_room, p.room, size, ap length both ∙ length-append now (kept q later));
          is = p.is ∙ rw (both, take_at (take n out ++ now) tail (n + c) front-size) (sym (append_assoc (take n out) now (kept q later)));
        })

-- the words from i on are left
module _ {q : ℕ} {words out : List ℕ} {n : ℕ} (i : ℕ) (h : i < length words) (p : Put q words out n (drop i words)) where
  next : drop i words ≡ get_or words i 0 ∷ drop (suc i) words
  next = drop-cons words i 0 h

  pub put_room : usable q (get_or words i 0) ≡ true → n < length out
  put_room e =
      let one = kept_usable q (get_or words i 0) (drop (suc i) words) e in
      let size : length (kept q (drop i words)) ≡ suc (length (kept q (drop (suc i) words))) = rw (next, one) in
      omega (arith, p.room)

  -- where all words are usable, the next one is
  pub put_full : n ≡ i → length words ≡ length out → usable q (get_or words i 0) ≡ true
  put_full e all =
      let size : length (drop i words) ≡ suc (length (drop (suc i) words)) = ap length next in
      kept_full q (get_or words i 0) (drop (suc i) words) (rw (← next) (omega (arith, p.room, length-drop i words)))

  pub put_usable : usable q (get_or words i 0) ≡ true → {x : ℕ} → x ≡ get_or words i 0 % q → Put q words (set out n x) (n + 1) (drop (i + 1) words)
  put_usable e {x} is =
      let rest = kept q (drop (suc i) words) in
      let one : kept q (drop i words) ≡ x ∷ rest = rw (next, is) (kept_usable q (get_or words i 0) (drop (suc i) words) e) in
      let size : length (kept q (drop i words)) ≡ suc (length rest) = ap length one in
      rw (add-one, add-one) (record {
        room = omega (arith, p.room, length-set out n x);
        is = p.is ∙ rw (one, take-suc-set out n x (put_room e)) (sym (append_assoc (take n out) (x ∷ []) rest));
      })

  pub put_skipped : usable q (get_or words i 0) ≡ false → Put q words out n (drop (i + 1) words)
  put_skipped e =
      let none = kept_skipped q (get_or words i 0) (drop (suc i) words) e in
      rw add-one (record {
        room = p.room ∙ rw (next, none);
        is = p.is ∙ rw (next, none);
      })
