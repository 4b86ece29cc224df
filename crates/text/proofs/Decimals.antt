-- Laws of decimal numbers.
--
--   spell_last, spell_more          the digits of a number of one digit, and of a larger one
--   tenth                           a digit less is a power of ten less
--   decimal_length, decimal_some    a number has at most ten digits, and at least one
--   decimal_short                   a number below 100000 has at most 5
--   decimal_one                     a number of one digit
--   decimal_tens, decimal_more      a larger one: its last digit after those of its tenth, and a digit after others
--   numerals                        the digits of a number of at most ten digits: the statement of specs/Numerals.antt
--   Digits                          the last digits of n at the end of a buffer, from index `start` on, and the rest of n
--   digits_start, digits_more       none of them, and one more
--   digits_last, digits_first       the first digit of n makes them whole, and where it stands
--   digits_cut, digits_over         no place is left for it
--   last_digits_more, length_last_digits   one more of the last digits, and how many there are
--   decimal_last                    the last digits stand behind those of the rest
use mathlib.Core.Path.{◌≡◌, refl, sym, ap, ap₂, ◌∙◌, subst}
use mathlib.Core.Logic.{⊎_elim}
use mathlib.Core.List.{List, [], ◌∷◌, ◌++◌, append-nil, append_assoc}
use Prim.Native.Nat.{ℕ, zero, suc, ◌+◌, ◌-◌, ◌*◌, ◌/◌, ◌%◌, ◌^◌, ◌<◌, ◌≤◌}
use native.Mathlib.Nat.{pow-suc, one-le-pow, div-div-eq-div-mul, le_refl}
use native.Mathlib.Omega.{arith}
use lib.ListN.{length, get_or, get_or-append, take, drop, set, length-append, length-drop, length-set, take-append-drop}
use lib.Seq.{get_or_at, append_snoc, set_split, drop_at, drop-length, take-set-le, take-take, length-take-le}
use borrow.Author.Tests.{lt-ltb, le-ltb}
use Rattle.algebra.proofs.Orders.{le_or_lt}
use Rattle.text.specs.Decimal.{digit, spell, decimal}
use Rattle.text.specs.Numerals.{value, Numerals}
use Rattle.text.specs.Internal.{last_digits, put_last}

pub spell_last : (k n : ℕ) → n < 10 → spell (suc k) n ≡ digit n ∷ []
unfolding spell
spell_last k n h = rw (lt-ltb n 10 h)

pub spell_more : (k n : ℕ) → 10 ≤ n → spell (suc k) n ≡ spell k (n / 10) ++ (digit (n % 10) ∷ [])
unfolding spell
spell_more k n h = rw (le-ltb n 10 h)

pub tenth : (j n : ℕ) → n < 10 ^ suc j → n / 10 < 10 ^ j
tenth j n h = omega (arith, pow-suc 10 j)

spell_length : (k j n : ℕ) → n < 10 ^ suc j → length (spell k n) ≤ suc j
unfolding spell
spell_length zero j n h = omega arith
spell_length (suc k) zero n h =
    let small : n < 10 = omega arith in
    omega (arith, ap length (spell_last k n small))
spell_length (suc k) (suc j) n h =
    let ih = spell_length k j (n / 10) (tenth (suc j) n h) in
    ⊎_elim (λ b. omega (arith, ap length (spell_more k n b), length-append (spell k (n / 10)) (digit (n % 10) ∷ []), ih))
    (λ b. omega (arith, ap length (spell_last k n b)))
    (le_or_lt 10 n)

spell_positive : (k n : ℕ) → 1 ≤ length (spell (suc k) n)
spell_positive k n =
    ⊎_elim (λ b. omega (arith, ap length (spell_more k n b), length-append (spell k (n / 10)) (digit (n % 10) ∷ [])))
    (λ b. omega (arith, ap length (spell_last k n b)))
    (le_or_lt 10 n)

spell_most : (k n : ℕ) → length (spell k n) ≤ k
unfolding spell
spell_most zero n = omega arith
spell_most (suc k) n =
    let ih = spell_most k (n / 10) in
    ⊎_elim (λ b. omega (arith, ap length (spell_more k n b), length-append (spell k (n / 10)) (digit (n % 10) ∷ []), ih))
    (λ b. omega (arith, ap length (spell_last k n b)))
    (le_or_lt 10 n)

pub decimal_length : (n : ℕ) → length (decimal n) ≤ 10
unfolding decimal
decimal_length n = spell_most 10 n

pub decimal_some : (n : ℕ) → 1 ≤ length (decimal n)
unfolding decimal
decimal_some n = spell_positive 9 n

pub decimal_short : (n : ℕ) → n < 100000 → length (decimal n) ≤ 5
unfolding decimal
decimal_short n h = spell_length 10 4 n h

-- more room changes nothing
spell_room : (k n : ℕ) → n < 10 ^ suc k → spell (suc k) n ≡ spell (suc (suc k)) n
spell_room zero n h =
    let small : n < 10 = omega arith in
    spell_last zero n small ∙ sym (spell_last 1 n small)
spell_room (suc k) n h =
    let ih = spell_room k (n / 10) (tenth (suc k) n h) in
    ⊎_elim (λ b. spell_more (suc k) n b ∙ ap (λ (xs : List ℕ). xs ++ (digit (n % 10) ∷ [])) ih ∙ sym (spell_more (suc (suc k)) n b))
    (λ b. spell_last (suc k) n b ∙ sym (spell_last (suc (suc k)) n b))
    (le_or_lt 10 n)

pub decimal_one : (n : ℕ) → n < 10 → decimal n ≡ digit n ∷ []
unfolding decimal
decimal_one n h = spell_last 9 n h

decimal_tens : (n : ℕ) → 10 ≤ n → n < 10 ^ 10 → decimal n ≡ decimal (n / 10) ++ (digit (n % 10) ∷ [])
unfolding decimal
decimal_tens n b h = spell_more 9 n b ∙ ap (λ (xs : List ℕ). xs ++ (digit (n % 10) ∷ [])) (spell_room 8 (n / 10) (tenth 9 n h))

pub decimal_more : (v d : ℕ) → 0 < v → v < 10 ^ 9 → d < 10 → decimal (v * 10 + d) ≡ decimal v ++ (digit d ∷ [])
decimal_more v d pos small one =
    let front : (v * 10 + d) / 10 ≡ v = omega arith in
    let end : (v * 10 + d) % 10 ≡ d = omega arith in
    decimal_tens (v * 10 + d) (omega arith) (omega arith)
    ∙ ap (λ (k : ℕ). decimal k ++ (digit ((v * 10 + d) % 10) ∷ [])) front
    ∙ ap (λ (k : ℕ). decimal v ++ (digit k ∷ [])) end

-- every byte is a digit
abbrev Digital : List ℕ → Type 0
Digital xs = (i : ℕ) → i < length xs → (digit 0 ≤ get_or xs i 0) × (get_or xs i 0 ≤ digit 9)

digital_more : (xs : List ℕ) (d : ℕ) → d < 10 → Digital xs → Digital (xs ++ (digit d ∷ []))
unfolding digit
digital_more xs d h all = λ i l.
    ⊎_elim
    (λ b.
    let end : length xs ≡ i = omega (arith, length-append xs (digit d ∷ [])) in
    omega (arith, get_or_at xs (digit d) [] 0 i end))
    (λ b. omega (arith, all i b, get_or-append xs (digit d ∷ []) 0 i b))
    (le_or_lt (length xs) i)

spell_digits : (k n : ℕ) → Digital (spell k n)
unfolding spell
spell_digits zero n = λ i h. omega arith
spell_digits (suc k) n =
    let ih = spell_digits k (n / 10) in
    ⊎_elim (λ b. subst Digital (sym (spell_more k n b)) (digital_more (spell k (n / 10)) (n % 10) (omega arith) ih))
    (λ b. subst Digital (sym (spell_last k n b)) (digital_more [] n b (λ i h. omega arith)))
    (le_or_lt 10 n)

value_last : (v : ℕ) (xs : List ℕ) (d : ℕ) → value v (xs ++ (digit d ∷ [])) ≡ value v xs * 10 + d
unfolding value digit
value_last v [] d = omega arith
value_last v (x ∷ xs) d = value_last (v * 10 + (x - 48)) xs d

spell_value : (k n : ℕ) → n < 10 ^ k → value 0 (spell k n) ≡ n
unfolding value spell digit
spell_value zero n h = omega arith
spell_value (suc k) n h =
    let ih = spell_value k (n / 10) (tenth k n h) in
    ⊎_elim (λ b. ap (value 0) (spell_more k n b) ∙ value_last 0 (spell k (n / 10)) (n % 10) ∙ omega (arith, ih))
    (λ b. ap (value 0) (spell_last k n b) ∙ omega arith)
    (le_or_lt 10 n)

spell_leads : (k n : ℕ) → 0 < n → n < 10 ^ suc k → digit 0 < get_or (spell (suc k) n) 0 0
unfolding digit
spell_leads zero n pos h =
    let one : n < 10 = omega arith in
    subst (λ (xs : List ℕ). 48 < get_or xs 0 0) (sym (spell_last zero n one)) (omega arith)
spell_leads (suc k) n pos h =
    let front = spell (suc k) (n / 10) in
    ⊎_elim
    (λ b. subst (λ (xs : List ℕ). 48 < get_or xs 0 0) (sym (spell_more (suc k) n b))
    (subst (λ (x : ℕ). 48 < x) (sym (get_or-append front (digit (n % 10) ∷ []) 0 0 (spell_positive k (n / 10))))
    (spell_leads k (n / 10) (omega arith) (tenth (suc k) n h))))
    (λ b. subst (λ (xs : List ℕ). 48 < get_or xs 0 0) (sym (spell_last (suc k) n b)) (omega arith))
    (le_or_lt 10 n)

pub numerals : Numerals
unfolding decimal
numerals n h = record {
  digits = spell_digits 10 n;
  value_is = spell_value 10 n h;
  alone = λ e. ap decimal e ∙ decimal_one 0 (omega arith);
  leads = λ pos. spell_leads 9 n pos h;
}

-- a byte stored, and those behind it
stored : (bytes : List ℕ) (i v : ℕ) → i < length bytes → drop i (set bytes i v) ≡ v ∷ drop (suc i) bytes
stored bytes i v h =
    ap (drop i) (set_split bytes i v h) ∙ drop_at (take i bytes) (v ∷ drop (suc i) bytes) i (length-take-le i bytes (omega arith))

pub record Digits (n : ℕ) (was bytes : List ℕ) (start rest : ℕ) : Type 0 where
  pub same : length bytes ≡ length was
  pub within : start ≤ length was
  pub small : rest < 2 ^ 32
  pub kept : take start bytes ≡ take start was
  pub is : decimal rest ++ drop start bytes ≡ decimal n

pub digits_start : (n : ℕ) (was : List ℕ) → n < 2 ^ 32 → Digits n was was (length was) n
digits_start n was h = record {
  same = refl;
  within = le_refl (length was);
  small = h;
  kept = refl;
  is = ap (λ (xs : List ℕ). decimal n ++ xs) (drop-length was) ∙ append-nil (decimal n);
}

module _ {n : ℕ} {was bytes : List ℕ} {start rest : ℕ} (d : Digits n was bytes start rest) where
  -- how long the rest is
  long : length (decimal rest) + (length was - start) ≡ length (decimal n)
  long = omega (arith, ap length d.is, length-append (decimal rest) (drop start bytes), length-drop start bytes, d.same)

  -- the next digit, and those behind it
  module _ (i : ℕ) (next : suc i ≡ start) where
    here : i < length bytes
    here = omega (arith, d.within, d.same)

    before : (v : ℕ) → take i (set bytes i v) ≡ take i was
    before v =
        take-set-le i bytes i v (le_refl i)
        ∙ sym (take-take i start bytes (omega arith))
        ∙ ap (take i) d.kept
        ∙ take-take i start was (omega arith)

    behind : (v : ℕ) → drop i (set bytes i v) ≡ v ∷ drop start bytes
    behind v = stored bytes i v here ∙ ap (λ (k : ℕ). v ∷ drop k bytes) next

    pub digits_more : (v : ℕ) → v ≡ digit (rest % 10) → 10 ≤ rest → Digits n was (set bytes i v) i (rest / 10)
    digits_more v next-is b =
        record {
          same = length-set bytes i v ∙ d.same;
          within = omega (arith, d.within);
          small = omega (arith, d.small);
          kept = before v;
          is =
              ap (λ (xs : List ℕ). decimal (rest / 10) ++ xs) (behind v ∙ ap (λ (x : ℕ). x ∷ drop start bytes) next-is)
              ∙ sym (append_snoc (decimal (rest / 10)) (digit (rest % 10)) (drop start bytes))
              ∙ ap (λ (xs : List ℕ). xs ++ drop start bytes) (sym (decimal_tens rest b (omega (arith, d.small))))
              ∙ d.is;
        }

    pub digits_first : rest < 10 → i ≡ length was - length (decimal n)
    digits_first b = omega (arith, long, ap length (decimal_one rest b), d.within)

    pub digits_last : (v : ℕ) → v ≡ digit (rest % 10) → rest < 10 → set bytes i v ≡ put_last was (decimal n)
    unfolding put_last
    digits_last v next-is b =
        let one : rest % 10 ≡ rest = omega arith in
        let none : 0 ≡ length (decimal n) - length was = omega (arith, digits_first b, long, ap length (decimal_one rest b), d.within) in
        sym (take-append-drop i (set bytes i v))
        ∙ ap₂ (λ (xs ys : List ℕ). xs ++ ys) (before v) (behind v)
        ∙ ap (λ (xs : List ℕ). take i was ++ (xs ++ drop start bytes)) (ap (λ (x : ℕ). x ∷ []) (next-is ∙ ap digit one) ∙ sym (decimal_one rest b))
        ∙ ap (λ (xs : List ℕ). take i was ++ xs) d.is
        ∙ ap₂ (λ (k m : ℕ). take k was ++ drop m (decimal n)) (digits_first b) none

  -- no place is left
  module _ (none : start ≡ 0) where
    pub digits_over : start ≡ length was - length (decimal n)
    digits_over = omega (arith, long)

    pub digits_cut : bytes ≡ put_last was (decimal n)
    unfolding put_last
    digits_cut =
        let lost : length (decimal rest) ≡ length (decimal n) - length was = omega (arith, long) in
        let all : drop start bytes ≡ bytes = ap (λ (k : ℕ). drop k bytes) none in
        sym all
        ∙ sym (drop_at (decimal rest) (drop start bytes) (length (decimal n) - length was) lost)
        ∙ ap (drop (length (decimal n) - length was)) d.is
        ∙ ap (λ (k : ℕ). take k was ++ drop (length (decimal n) - length was) (decimal n)) (sym none ∙ digits_over)

-- the next of the last digits, in its place
pub last_digits_more : (i rest v : ℕ) (bytes : List ℕ) → v ≡ digit (rest % 10) → i < length bytes
    → last_digits i (rest / 10) ++ drop i (set bytes i v) ≡ last_digits (suc i) rest ++ drop (suc i) bytes
unfolding last_digits
last_digits_more i rest v bytes next-is h =
    ap (λ (xs : List ℕ). last_digits i (rest / 10) ++ xs) (stored bytes i v h ∙ ap (λ (x : ℕ). x ∷ drop (suc i) bytes) next-is)
    ∙ sym (append_snoc (last_digits i (rest / 10)) (digit (rest % 10)) (drop (suc i) bytes))

pub length_last_digits : (k n : ℕ) → length (last_digits k n) ≡ k
unfolding last_digits
length_last_digits zero n = refl
length_last_digits (suc k) n = omega (arith, length-append (last_digits k (n / 10)) (digit (n % 10) ∷ []), length_last_digits k (n / 10))

pub decimal_last : (k n : ℕ) → 10 ^ k ≤ n → n < 10 ^ 10 → decimal n ≡ decimal (n / 10 ^ k) ++ last_digits k n
unfolding last_digits
decimal_last zero n b h =
    let whole : n ≡ n / 1 = omega arith in
    ap decimal whole ∙ sym (append-nil (decimal (n / 1)))
decimal_last (suc k) n b h =
    let power = pow-suc 10 k in
    let tens : 10 ≤ n = omega (arith, power, one-le-pow k 10 (omega arith)) in
    let left : 10 ^ k ≤ n / 10 = omega (arith, power) in
    let power-is : 10 * 10 ^ k ≡ 10 ^ suc k = omega (arith, power) in
    let rest : n / 10 / 10 ^ k ≡ n / 10 ^ suc k = div-div-eq-div-mul n 10 (10 ^ k) ∙ ap (λ (m : ℕ). n / m) power-is in
    decimal_tens n tens h
    ∙ ap (λ (xs : List ℕ). xs ++ (digit (n % 10) ∷ [])) (decimal_last k (n / 10) left (omega arith))
    ∙ append_assoc (decimal (n / 10 / 10 ^ k)) (last_digits k (n / 10)) (digit (n % 10) ∷ [])
    ∙ ap (λ (m : ℕ). decimal m ++ (last_digits k (n / 10) ++ (digit (n % 10) ∷ []))) rest
