-- Laws of a line of ten numbers: exactly the lines of the sheet are read.
--
--   line_back    a line of ten numbers is read, and its numbers are those
--   line_only    what is read is the line of its numbers
--   lines        so exactly the lines of ten numbers are read: the statement of specs/Line.antt
use mathlib.Core.Path.{◌≡◌, refl, sym, ap, ◌∙◌, subst}
use mathlib.Core.Bool.{true, false, not, ◌||◌, true≢false}
use mathlib.Core.Logic.{⊎_elim}
use Rattle.std.specs.Prelude.{Option, Some, None, is_some, unwrap_or}
use mathlib.Core.List.{List, [], ◌∷◌, ◌++◌, append-nil, append_assoc}
use Prim.Native.Nat.{ℕ, zero, suc, ◌+◌, ◌-◌, ◌*◌, ◌/◌, ◌%◌, ◌^◌, ◌<◌, ◌≤◌}
use native.Mathlib.Numerals.{add-one}
use native.Mathlib.Omega.{arith}
use lib.Dec.{ltb, eqb}
use lib.ListN.{length, take, set, replicate, length-set}
use lib.Seq.{take_all, length-take-le, take-suc-set, append_snoc}
use borrow.Author.Tests.{ltb-true, eqb-true, eq-eqb, ne_eqb, lt-ltb}
use Rattle.algebra.specs.Lists.{AllBelow}
use Rattle.algebra.proofs.Tests.{by_test}
use Rattle.algebra.proofs.Orders.{le_or_lt}
use Rattle.algebra.proofs.Lists.{below_append}
use Rattle.lister_line.specs.declared.Progress.{Progress}
use Rattle.lister_line.specs.declared.Line.{Line}
use Rattle.text.specs.Decimal.{digit, spell, decimal}
use Rattle.lister_line.specs.Internal.{separator, begun, value, nothing, takes_digit, takes_end, with_digit, with_end, refused, step, run}
use Rattle.lister_line.specs.Line.{written, IsLine, line_of, Lines}
use Rattle.text.proofs.Decimals.{spell_last, spell_more, tenth, decimal_one, decimal_more}
use Rattle.lister_line.proofs.Steps.{left_true, right_true, DigitTaken, EndTaken, digit_taken, takes_digit_lem, end_taken, takes_end_lem, step_digit, step_end, step_refused, run_append, line_is}

-- The numbers ns from number k on, each with the byte after it.
terms : ℕ → List ℕ → List ℕ
terms k [] = []
terms k (n ∷ ns) = decimal n ++ (separator k ∷ terms (suc k) ns)

separator_space : (k : ℕ) → (k ≡ 9 → ⊥) → separator k ≡ 32
unfolding separator
separator_space k h = rw (ne_eqb k 9 h)

separator_feed : (k : ℕ) → k ≡ 9 → separator k ≡ 10
unfolding separator
separator_feed k h = rw (eq-eqb k 9 h)

separator_low : (k : ℕ) → separator k < 48
unfolding separator
separator_low k = ⊎_elim (λ e. rw e (omega arith)) (λ e. rw e (omega arith)) (by_test (eqb k 9))

written_terms : (k : ℕ) (ns : List ℕ) → k + length ns ≡ 10 → written ns ≡ terms k ns
unfolding written terms
written_terms k [] h = refl
written_terms k (n ∷ []) h = ap (λ (b : ℕ). decimal n ++ (b ∷ [])) (sym (separator_feed k (omega arith)))
written_terms k (n ∷ m ∷ ns) h =
    ap (λ (xs : List ℕ). decimal n ++ (32 ∷ xs)) (written_terms (suc k) (m ∷ ns) (omega arith))
    ∙ ap (λ (b : ℕ). decimal n ++ (b ∷ terms (suc k) (m ∷ ns))) (sym (separator_space k (λ e. omega arith)))

-- Progress with no fault.
faultless : Option ℕ → ℕ → List ℕ → Progress
faultless present count numbers = record { ok = true; present = present; count = count; numbers = numbers }

digit_step : (present : Option ℕ) (count : ℕ) (numbers : List ℕ) (d : ℕ) → count < 10 → d < 10 → unwrap_or present 0 < 10000
    → (not (is_some present) || ltb 0 (unwrap_or present 0)) ≡ true
    → step (faultless present count numbers) (digit d) ≡ faultless (Some (unwrap_or present 0 * 10 + d)) count numbers
unfolding faultless digit with_digit
digit_step present count numbers d room one small leads =
    let back : 48 + d - 48 ≡ d = omega arith in
    step_digit (faultless present count numbers) (digit d)
    (takes_digit_lem (faultless present count numbers) (digit d)
    (record { ok = refl; room = room; low = omega arith; high = omega arith; small = small; leads = leads }))
    ∙ ap (λ (k : ℕ). faultless (Some (unwrap_or present 0 * 10 + k)) count numbers) back

end_step : (value count : ℕ) (numbers : List ℕ) → count < 10
    → step (faultless (Some value) count numbers) (separator count) ≡ faultless None (suc count) (set numbers count value)
unfolding faultless with_end
end_step value count numbers room =
    step_end (faultless (Some value) count numbers) (separator count)
    (⊎_elim (λ e. absurd (no_digit (digit_taken (faultless (Some value) count numbers) (separator count) e))) (λ e. e) (by_test (takes_digit (faultless (Some value) count numbers) (separator count))))
    (takes_end_lem (faultless (Some value) count numbers) (separator count) (record { ok = refl; room = room; started = refl; is = refl }))
    ∙ ap (λ (k : ℕ). faultless None k (set numbers count value)) (add-one count)
  where
    no_digit : DigitTaken (faultless (Some value) count numbers) (separator count) → ⊥
    no_digit d = omega (arith, d.low, separator_low count)

module _ (count : ℕ) (numbers : List ℕ) (room : count < 10) where
  run_one : (n : ℕ) → n < 10 → run (faultless None count numbers) (digit n ∷ []) ≡ faultless (Some n) count numbers
  unfolding run
  run_one n h =
      let e : 0 * 10 + n ≡ n = omega arith in
      digit_step None count numbers n room h (omega arith) refl ∙ ap (λ (k : ℕ). faultless (Some k) count numbers) e

  -- the last digit, after a number that is not 0
  run_last : (n : ℕ) (front : List ℕ) → 10 ≤ n → n < 100000 → run (faultless None count numbers) front ≡ faultless (Some (n / 10)) count numbers
      → run (faultless None count numbers) (front ++ (digit (n % 10) ∷ [])) ≡ faultless (Some n) count numbers
  unfolding run
  run_last n front b small e =
      let whole : n / 10 * 10 + n % 10 ≡ n = omega arith in
      run_append (faultless None count numbers) front (digit (n % 10) ∷ [])
      ∙ ap (λ (p : Progress). step p (digit (n % 10))) e
      ∙ digit_step (Some (n / 10)) count numbers (n % 10) room (omega arith) (omega arith) (lt-ltb 0 (n / 10) (omega arith))
      ∙ ap (λ (k : ℕ). faultless (Some k) count numbers) whole

  run_spell : (k n : ℕ) → n < 100000 → n < 10 ^ suc k → run (faultless None count numbers) (spell (suc k) n) ≡ faultless (Some n) count numbers
  run_spell zero n small h =
      let one : n < 10 = omega arith in
      ap (run (faultless None count numbers)) (spell_last zero n one) ∙ run_one n one
  run_spell (suc k) n small h =
      let ih = run_spell k (n / 10) (omega arith) (tenth (suc k) n h) in
      ⊎_elim (λ b. ap (run (faultless None count numbers)) (spell_more (suc k) n b) ∙ run_last n (spell (suc k) (n / 10)) b small ih)
      (λ b. ap (run (faultless None count numbers)) (spell_last (suc k) n b) ∙ run_one n b)
      (le_or_lt 10 n)

  run_decimal : (n : ℕ) → n < 100000 → run (faultless None count numbers) (decimal n) ≡ faultless (Some n) count numbers
  unfolding decimal
  run_decimal n h = run_spell 9 n h (omega arith)

-- A number, the byte after it, and what follows.
run_term : (count : ℕ) (numbers : List ℕ) (n : ℕ) (rest : List ℕ) → count < 10 → n < 100000
    → run (faultless None count numbers) (decimal n ++ (separator count ∷ rest)) ≡ run (faultless None (suc count) (set numbers count n)) rest
unfolding run
run_term count numbers n rest room small =
    run_append (faultless None count numbers) (decimal n) (separator count ∷ rest)
    ∙ ap (λ (p : Progress). run (step p (separator count)) rest) (run_decimal count numbers room n small)
    ∙ ap (λ (p : Progress). run p rest) (end_step n count numbers room)

run_terms : (ns : List ℕ) (k : ℕ) (numbers : List ℕ) → k + length ns ≡ 10 → length numbers ≡ 10 → AllBelow 100000 ns
    → run (faultless None k numbers) (terms k ns) ≡ faultless None 10 (take k numbers ++ ns)
unfolding run terms
run_terms [] k numbers h whole below =
    let e : k ≡ 10 = omega arith in
    ap (λ (j : ℕ). faultless None j numbers) e
    ∙ ap (λ (xs : List ℕ). faultless None 10 xs) (sym (append-nil (take k numbers) ∙ take_all k numbers (omega arith)))
run_terms (n ∷ ns) k numbers h whole below =
    run_term k numbers n (terms (suc k) ns) (omega arith) (below 0 (omega arith))
    ∙ run_terms ns (suc k) (set numbers k n) (omega arith) (length-set numbers k n ∙ whole) (λ i l. below (suc i) (omega arith))
    ∙ ap (λ (xs : List ℕ). faultless None 10 (xs ++ ns)) (take-suc-set numbers k n (omega arith))
    ∙ ap (λ (xs : List ℕ). faultless None 10 xs) (append_snoc (take k numbers) n ns)

pub line_back : {input ns : List ℕ} → IsLine input ns → line_of input ≡ record { ok = true; numbers = ns }
unfolding faultless nothing
line_back {input} {ns} l =
    let here : 0 + length ns ≡ 10 = omega (arith, l.ten) in
    let read : run nothing input ≡ faultless None 10 ns =
    ap (run nothing) (l.is ∙ written_terms 0 ns here) ∙ run_terms ns 0 (replicate 10 0) here refl l.short in
    sym (line_is input (faultless None 10 ns) true (sym read) refl)

-- What the bytes so far are, where they have no fault.
shown : Option ℕ → List ℕ
shown None = []
shown (Some v) = decimal v

shown_begun : (present : Option ℕ) → is_some present ≡ true → shown present ≡ decimal (unwrap_or present 0)
unfolding shown
shown_begun None e = absurd (true≢false (sym e))
shown_begun (Some v) e = refl

shown_none : (present : Option ℕ) → is_some present ≡ false → shown present ≡ []
unfolding shown
shown_none None e = refl
shown_none (Some v) e = absurd (true≢false e)

record Holds (done : List ℕ) (p : Progress) : Type 0 where
  whole : length p.numbers ≡ 10
  few : p.count ≤ 10
  live : begun p ≡ true → p.count < 10
  small : value p < 100000
  below : AllBelow 100000 (take p.count p.numbers)
  is : done ≡ terms 0 (take p.count p.numbers) ++ shown p.present

abbrev Fit : List ℕ → Progress → Type 0
Fit done p = p.ok ≡ true → Holds done p

holds_start : Holds [] nothing
unfolding nothing terms shown
holds_start = record {
  whole = refl;
  few = omega arith;
  live = λ e. absurd (true≢false (sym e));
  small = omega arith;
  below = λ i h. omega arith;
  is = refl;
}

-- a further digit
shown_more : (present : Option ℕ) (b : ℕ) → (not (is_some present) || ltb 0 (unwrap_or present 0)) ≡ true → unwrap_or present 0 < 10000
    → 48 ≤ b → b ≤ 57 → shown present ++ (b ∷ []) ≡ decimal (unwrap_or present 0 * 10 + (b - 48))
unfolding shown digit
shown_more (Some v) b leads small low high =
    let back : 48 + (b - 48) ≡ b = omega arith in
    sym (decimal_more v (b - 48) (ltb-true 0 v leads) (omega arith) (omega arith) ∙ ap (λ (k : ℕ). decimal v ++ (k ∷ [])) back)
shown_more None b leads small low high =
    let only : 0 * 10 + (b - 48) ≡ b - 48 = omega arith in
    let back : 48 + (b - 48) ≡ b = omega arith in
    sym (ap decimal only ∙ decimal_one (b - 48) (omega arith) ∙ ap (λ (k : ℕ). k ∷ []) back)

holds_digit : (done : List ℕ) (p : Progress) (b : ℕ) → Holds done p → DigitTaken p b → Holds (done ++ (b ∷ [])) (with_digit p b)
unfolding with_digit shown
holds_digit done p b h d = record {
  whole = h.whole;
  few = h.few;
  live = λ e. d.room;
  small = omega (arith, d.small, d.high);
  below = h.below;
  is =
      ap (λ (xs : List ℕ). xs ++ (b ∷ [])) h.is
      ∙ append_assoc (terms 0 (take p.count p.numbers)) (shown p.present) (b ∷ [])
      ∙ ap (λ (xs : List ℕ). terms 0 (take p.count p.numbers) ++ xs)
      (shown_more p.present b d.leads d.small d.low d.high);
}

terms_snoc : (k : ℕ) (xs : List ℕ) (x : ℕ) → terms k (xs ++ (x ∷ [])) ≡ terms k xs ++ (decimal x ++ (separator (k + length xs) ∷ []))
unfolding terms
terms_snoc k [] x = let e : k ≡ k + 0 = omega arith in ap (λ (j : ℕ). decimal x ++ (separator j ∷ [])) e
terms_snoc k (y ∷ xs) x =
    let e : suc k + length xs ≡ k + suc (length xs) = omega arith in
    ap (λ (ys : List ℕ). decimal y ++ (separator k ∷ ys))
    (terms_snoc (suc k) xs x ∙ ap (λ (j : ℕ). terms (suc k) xs ++ (decimal x ++ (separator j ∷ []))) e)
    ∙ sym (append_assoc (decimal y) (separator k ∷ terms (suc k) xs) (decimal x ++ (separator (k + suc (length xs)) ∷ [])))

-- a number's end
module _ (p : Progress) (room : p.count < 10) (whole : length p.numbers ≡ 10) where
  taken : take (p.count + 1) (set p.numbers p.count (value p)) ≡ take p.count p.numbers ++ (value p ∷ [])
  taken =
      ap (λ (k : ℕ). take k (set p.numbers p.count (value p))) (add-one p.count)
      ∙ take-suc-set p.numbers p.count (value p) (omega arith)

  ended : terms 0 (take p.count p.numbers) ++ (decimal (value p) ++ (separator p.count ∷ []))
      ≡ terms 0 (take (p.count + 1) (set p.numbers p.count (value p)))
  ended =
      let e : p.count ≡ 0 + length (take p.count p.numbers) = omega (arith, length-take-le p.count p.numbers (omega arith)) in
      ap (λ (k : ℕ). terms 0 (take p.count p.numbers) ++ (decimal (value p) ++ (separator k ∷ []))) e
      ∙ sym (ap (terms 0) taken ∙ terms_snoc 0 (take p.count p.numbers) (value p))

holds_end : (done : List ℕ) (p : Progress) (b : ℕ) → Holds done p → EndTaken p b → Holds (done ++ (b ∷ [])) (with_end p)
unfolding with_end shown
holds_end done p b h d = record {
  whole = length-set p.numbers p.count (value p) ∙ h.whole;
  few = omega (arith, d.room);
  live = λ e. absurd (true≢false (sym e));
  small = omega arith;
  below =
      subst (AllBelow 100000) (sym (taken p d.room h.whole))
      (below_append 100000 (take p.count p.numbers) (value p ∷ []) h.below one);
  is =
      ap (λ (xs : List ℕ). xs ++ (b ∷ [])) h.is
      ∙ ap (λ (xs : List ℕ). terms 0 (take p.count p.numbers) ++ xs ++ (b ∷ [])) (shown_begun p.present d.started)
      ∙ ap (λ (k : ℕ). terms 0 (take p.count p.numbers) ++ decimal (value p) ++ (k ∷ [])) d.is
      ∙ append_assoc (terms 0 (take p.count p.numbers)) (decimal (value p)) (separator p.count ∷ [])
      ∙ ended p d.room h.whole
      ∙ sym (append-nil (terms 0 (take (p.count + 1) (set p.numbers p.count (value p)))));
}
  where
    one : AllBelow 100000 (value p ∷ [])
    one zero l = h.small
    one (suc i) l = let no : ⊥ = omega arith in absurd no

fit_step : (done : List ℕ) (p : Progress) (b : ℕ) → Fit done p → Fit (done ++ (b ∷ [])) (step p b)
unfolding refused
fit_step done p b h =
    ⊎_elim
    (λ t. let d = digit_taken p b t in
    subst (Fit (done ++ (b ∷ []))) (sym (step_digit p b t)) (λ e. holds_digit done p b (h d.ok) d))
    (λ f. ⊎_elim
    (λ t. let d = end_taken p b t in
    subst (Fit (done ++ (b ∷ []))) (sym (step_end p b f t)) (λ e. holds_end done p b (h d.ok) d))
    (λ g. subst (Fit (done ++ (b ∷ []))) (sym (step_refused p b f g)) (λ e. absurd (true≢false (sym e))))
    (by_test (takes_end p b)))
    (by_test (takes_digit p b))

fit_run : (todo done : List ℕ) (p : Progress) → Fit done p → Fit (done ++ todo) (run p todo)
unfolding run
fit_run [] done p h = subst (λ (xs : List ℕ). Fit xs p) (sym (append-nil done)) h
fit_run (b ∷ todo) done p h =
    subst (λ (xs : List ℕ). Fit xs (run (step p b) todo)) (append_snoc done b todo)
    (fit_run todo (done ++ (b ∷ [])) (step p b) (fit_step done p b h))

-- the end of a line
holds_line : (input : List ℕ) (p : Progress) → Holds input p → p.count ≡ 10 → IsLine input p.numbers
holds_line input p h e =
    let all : take p.count p.numbers ≡ p.numbers = take_all p.count p.numbers (omega (arith, h.whole)) in
    let here : 0 + length p.numbers ≡ 10 = omega (arith, h.whole) in
    let stopped : begun p ≡ false = ⊎_elim (λ t. absurd (late (h.live t))) (λ f. f) (by_test (begun p)) in
    record {
      ten = h.whole;
      short = subst (AllBelow 100000) all h.below;
      is =
          h.is
          ∙ ap (λ (xs : List ℕ). terms 0 (take p.count p.numbers) ++ xs) (shown_none p.present stopped)
          ∙ append-nil (terms 0 (take p.count p.numbers))
          ∙ ap (terms 0) all
          ∙ sym (written_terms 0 p.numbers here);
    }
  where
    late : p.count < 10 → ⊥
    late l = omega arith

pub line_only : (input : List ℕ) → (line_of input).ok ≡ true → IsLine input (line_of input).numbers
unfolding line_of
line_only input e =
    let p = run nothing input in
    holds_line input p
    (fit_run input [] nothing (λ t. holds_start) (left_true p.ok (eqb p.count 10) e))
    (eqb-true p.count 10 (right_true p.ok (eqb p.count 10) e))

pub lines : Lines
lines = record {
  accepted = λ input ns. (
    λ e. subst (IsLine input) (ap (λ (l : Line). l.numbers) e) (line_only input (ap (λ (l : Line). l.ok) e)),
    line_back,
  );
  refused = λ input. (
    λ e ns l. true≢false (sym (ap (λ (l : Line). l.ok) (line_back l)) ∙ e),
    λ none. ⊎_elim (λ t. absurd (none (line_of input).numbers (line_only input t))) (λ f. f) (by_test (line_of input).ok),
  );
}
