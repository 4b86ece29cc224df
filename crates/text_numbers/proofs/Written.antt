-- Numbers that are written out are read back.
--
--   Leads p bs ns q    from the part p the bytes bs have no fault, end the numbers ns, where these have room, and lead to q
--   read-back          the text of numbers below 2^32, where these have room, reads back as exactly these numbers
use mathlib.Core.Path.{◌≡◌, refl, ap, ◌∙◌}
use Rattle.std.proofs.Common.{Ok}
use mathlib.Core.Bool.{true, false}
use mathlib.Core.Logic.{⊎_elim}
use mathlib.Core.List.{List, [], ◌∷◌, ◌++◌, append-nil, append_assoc}
use Prim.Native.Nat.{ℕ, zero, suc, ◌+◌, ◌-◌, ◌*◌, ◌/◌, ◌%◌, ◌^◌, ◌<◌, ◌≤◌}
use native.Mathlib.Omega.{arith}
use lib.ListN.{length, length-append}
use borrow.Author.Tests.{lt-ltb, le-leb, lt-leb}
use Rattle.algebra.specs.Lists.{AllBelow}
use Rattle.algebra.proofs.Tests.{by_test}
use Rattle.algebra.proofs.Orders.{le_or_lt}
use Rattle.text.specs.Decimal.{digit, spell, decimal}
use Rattle.text.proofs.Decimals.{spell_last, spell_more, tenth}
use Rattle.text_numbers.specs.declared.Part.{Part}
use Rattle.text_numbers.specs.Numbers.{within, is_digit, sets_apart, apart, number, in_comment, has_digits, value_of, grown, fits, after, ends, ended, taken, reached, found, closed, reach, numbers_of, read_outcome, written}
use Rattle.text_numbers.proofs.Steps.{fits_digit, after_digit, ended_none, reached_on, found_on}

record Leads (p : Part) (bs ns : List ℕ) (q : Part) : Type 0 where
  to : (room : ℕ) (rest : List ℕ) → length ns ≤ room → reached p room (bs ++ rest) ≡ length bs + reached q (room - length ns) rest
  numbers : (room : ℕ) (rest : List ℕ) → length ns ≤ room → found p room (bs ++ rest) ≡ ns ++ found q (room - length ns) rest

-- no bytes, one byte that fits, and some bytes with others after them
leads_none : (p : Part) → Leads p [] [] p
leads_none p = record {
  to = λ room rest h. let e : room - 0 ≡ room = omega arith in rw e (omega arith);
  numbers = λ room rest h. let e : room - 0 ≡ room = omega arith in rw e;
}

leads_byte : (p : Part) (b : ℕ) → fits p b ≡ true → Leads p (b ∷ []) (ended p b) (after p b)
unfolding taken
leads_byte p b ok = record {
  to = λ room rest h. omega (arith, reached_on p room b rest (rw (ok, le-leb (length (ended p b)) room h)));
  numbers = λ room rest h. found_on p room b rest (rw (ok, le-leb (length (ended p b)) room h));
}

leads_on : {p q r : Part} (xs ys ms ns : List ℕ) → Leads p xs ms q → Leads q ys ns r → Leads p (xs ++ ys) (ms ++ ns) r
leads_on {p} {q} {r} xs ys ms ns f g =
    let many = length-append ms ns in
    record {
      to = λ room rest h.
          let less : room - length ms - length ns ≡ room - length (ms ++ ns) = omega (arith, many) in
          rw append_assoc
          (f.to room (ys ++ rest) (omega (arith, many))
          ∙ omega (arith, rw less at (g.to (room - length ms) rest (omega (arith, many))), length-append xs ys));
      numbers = λ room rest h.
          let less : room - length ms - length ns ≡ room - length (ms ++ ns) = omega (arith, many) in
          rw (append_assoc xs ys rest, append_assoc ms ns)
          (f.numbers room (ys ++ rest) (omega (arith, many))
          ∙ ap (λ (ks : List ℕ). ms ++ ks) (rw less at (g.numbers (room - length ms) rest (omega (arith, many)))));
    }

module _ (p : Part) (d : ℕ) (outside : in_comment p ≡ false) (one : d < 10) where
  is_one : is_digit (digit d) ≡ true
  unfolding is_digit within digit
  is_one = rw (le-leb 48 (48 + d) (omega arith), le-leb (48 + d) 57 (omega arith))

  grown_one : grown p (digit d) ≡ value_of p * 10 + d
  unfolding grown digit
  grown_one = omega arith

  no_end : ends p (digit d) ≡ false
  unfolding ends
  no_end = rw is_one (⊎_elim (λ t. rw t) (λ f. rw f) (by_test (has_digits p)))

  -- one digit more
  leads_digit : (n : ℕ) → value_of p * 10 + d ≡ n → n < 2 ^ 32 → Leads p (digit d ∷ []) [] (number n)
  leads_digit n is small =
      let more : grown p (digit d) ≡ n = grown_one ∙ is in
      let fit : fits p (digit d) ≡ true = fits_digit p (digit d) outside is_one ∙ lt-ltb (grown p (digit d)) (2 ^ 32) (omega arith) in
      let next : after p (digit d) ≡ number n = after_digit p (digit d) outside is_one ∙ ap number more in
      rw (ended_none p (digit d) no_end, next) at (leads_byte p (digit d) fit)

-- the digits of a number
leads_spell : (k n : ℕ) → n < 2 ^ 32 → n < 10 ^ suc k → Leads (apart false) (spell (suc k) n) [] (number n)
unfolding apart number in_comment has_digits value_of
leads_spell zero n small h =
    let one : n < 10 = omega arith in
    rw (spell_last zero n one) (leads_digit (apart false) n refl one n (omega arith) small)
leads_spell (suc k) n small h =
    ⊎_elim
    (λ (b : 10 ≤ n). rw (spell_more (suc k) n b)
    (leads_on (spell (suc k) (n / 10)) (digit (n % 10) ∷ []) [] [] (leads_spell k (n / 10) (omega arith) (tenth (suc k) n h))
    (leads_digit (number (n / 10)) (n % 10) refl (omega arith) n (omega arith) small)))
    (λ (b : n < 10). rw (spell_last (suc k) n b) (leads_digit (apart false) n refl b n (omega arith) small))
    (le_or_lt 10 n)

leads_decimal : (n : ℕ) → n < 2 ^ 32 → Leads (apart false) (decimal n) [] (number n)
unfolding decimal
leads_decimal n h = leads_spell 9 n h (omega arith)

-- the line feed after a number, and after the text
leads_feed : (v : ℕ) → Leads (number v) (10 ∷ []) (v ∷ []) (apart false)
unfolding within is_digit sets_apart apart number in_comment has_digits value_of fits after ends ended
leads_feed v = leads_byte (number v) 10 refl

leads_end : Leads (apart false) (10 ∷ []) [] (apart false)
unfolding within is_digit sets_apart apart in_comment has_digits value_of fits after ends ended
leads_end = leads_byte (apart false) 10 refl

leads_written : (ns : List ℕ) → AllBelow (2 ^ 32) ns → Leads (apart false) (written ns) ns (apart false)
unfolding written
leads_written [] below = leads_none (apart false)
leads_written (n ∷ ns) below =
    leads_on (decimal n) (10 ∷ written ns) [] (n ∷ ns) (leads_decimal n (below 0 (omega arith)))
    (leads_on (10 ∷ []) (written ns) (n ∷ []) ns (leads_feed n) (leads_written ns (λ i l. below (suc i) (omega arith))))

pub read_back : (ns : List ℕ) (room : ℕ) → AllBelow (2 ^ 32) ns → length ns ≤ room
    → (read_outcome (written ns) room ≡ Ok (length ns)) × (numbers_of (written ns) room ≡ ns)
unfolding read_outcome reach numbers_of closed reached found
read_back ns room below h =
    let text = leads_written ns below in
    let left = room - length ns in
    let to : reached (apart false) room (written ns ++ (10 ∷ [])) ≡ length (written ns) + 1
    = text.to room (10 ∷ []) h ∙ ap (λ (k : ℕ). length (written ns) + k) (leads_end.to left [] (omega arith)) in
    let these : found (apart false) room (written ns ++ (10 ∷ [])) ≡ ns
    = text.numbers room (10 ∷ []) h ∙ ap (λ (xs : List ℕ). ns ++ xs) (leads_end.numbers left [] (omega arith)) ∙ append-nil ns in
    (rw (to, lt-leb (length (written ns) + 1) (length (written ns)) (omega arith), these), these)
