-- Laws of reading one byte.
--
--   both, left_true, right_true     a conjunction that passed
--   DigitTaken, EndTaken            what is known where a byte is a further digit, or ends a number
--   digit_taken, end_taken          the tests tell it
--   takes_digit_lem, takes_end_lem          it passes the tests
--   step_digit, step_end            the progress after such a byte
--   step_refused                    the progress after any other
--   run_append                      some bytes after others
--   run_more                        one byte more
--   line_is                         the line that the progress over the whole input tells
use mathlib.Core.Path.{◌≡◌, refl, sym, ap, ◌∙◌}
use mathlib.Core.Bool.{Bool, true, false, not, ◌&&◌, ◌||◌, true≢false}
use mathlib.Core.List.{List, [], ◌∷◌, ◌++◌}
use Prim.Native.Nat.{ℕ, suc, ◌<◌, ◌≤◌}
use lib.Dec.{ltb, leb, eqb}
use lib.ListN.{length, get_or, take}
use lib.Seq.{take-suc}
use borrow.Author.Tests.{ltb-true, leb-true, eqb-true, lt-ltb, le-leb, eq-eqb}
use Rattle.lister_line.specs.declared.Progress.{Progress}
use Rattle.lister_line.specs.declared.Line.{Line}
use Rattle.lister_line.specs.Internal.{separator, begun, value, is_digit, goes_on, grows, takes_digit, takes_end, with_digit, with_end, refused, nothing, step, run}
use Rattle.lister_line.specs.Line.{line_of}

pub both : {a b : Bool} → a ≡ true → b ≡ true → (a && b) ≡ true
both {a} {b} s t = rw s t

pub left_true : (a b : Bool) → (a && b) ≡ true → a ≡ true
left_true true b e = refl
left_true false b e = e

pub right_true : (a b : Bool) → (a && b) ≡ true → b ≡ true
right_true true b e = e
right_true false b e = absurd (true≢false (sym e))

pub record DigitTaken (p : Progress) (b : ℕ) : Type 0 where
  pub ok : p.ok ≡ true
  pub room : p.count < 10
  pub low : 48 ≤ b
  pub high : b ≤ 57
  pub small : value p < 10000
  pub leads : (not (begun p) || ltb 0 (value p)) ≡ true

pub record EndTaken (p : Progress) (b : ℕ) : Type 0 where
  pub ok : p.ok ≡ true
  pub room : p.count < 10
  pub started : begun p ≡ true
  pub is : b ≡ separator p.count

module _ (p : Progress) (b : ℕ) where
  pub digit_taken : takes_digit p b ≡ true → DigitTaken p b
  unfolding takes_digit goes_on is_digit grows
  digit_taken e =
      let first = left_true (goes_on p && is_digit b) (grows p) e in
      let on = left_true (goes_on p) (is_digit b) first in
      let is = right_true (goes_on p) (is_digit b) first in
      let more = right_true (goes_on p && is_digit b) (grows p) e in
      record {
        ok = left_true p.ok (ltb p.count 10) on;
        room = ltb-true p.count 10 (right_true p.ok (ltb p.count 10) on);
        low = leb-true 48 b (left_true (leb 48 b) (leb b 57) is);
        high = leb-true b 57 (right_true (leb 48 b) (leb b 57) is);
        small = ltb-true (value p) 10000 (left_true (ltb (value p) 10000) (not (begun p) || ltb 0 (value p)) more);
        leads = right_true (ltb (value p) 10000) (not (begun p) || ltb 0 (value p)) more;
      }

  pub takes_digit_lem : DigitTaken p b → takes_digit p b ≡ true
  unfolding takes_digit goes_on is_digit grows
  takes_digit_lem d =
      both (both (both d.ok (lt-ltb p.count 10 d.room)) (both (le-leb 48 b d.low) (le-leb b 57 d.high)))
      (both (lt-ltb (value p) 10000 d.small) d.leads)

  pub end_taken : takes_end p b ≡ true → EndTaken p b
  unfolding takes_end goes_on
  end_taken e =
      let first = left_true (goes_on p && (begun p)) (eqb b (separator p.count)) e in
      let on = left_true (goes_on p) (begun p) first in
      record {
        ok = left_true p.ok (ltb p.count 10) on;
        room = ltb-true p.count 10 (right_true p.ok (ltb p.count 10) on);
        started = right_true (goes_on p) (begun p) first;
        is = eqb-true b (separator p.count) (right_true (goes_on p && (begun p)) (eqb b (separator p.count)) e);
      }

  pub takes_end_lem : EndTaken p b → takes_end p b ≡ true
  unfolding takes_end goes_on
  takes_end_lem d =
      both (both (both d.ok (lt-ltb p.count 10 d.room)) d.started) (eq-eqb b (separator p.count) d.is)

  pub step_digit : takes_digit p b ≡ true → step p b ≡ with_digit p b
  unfolding step
  step_digit e = rw e

  pub step_end : takes_digit p b ≡ false → takes_end p b ≡ true → step p b ≡ with_end p
  unfolding step
  step_end d e = rw (d, e)

  pub step_refused : takes_digit p b ≡ false → takes_end p b ≡ false → step p b ≡ refused p
  unfolding step
  step_refused d e = rw (d, e)

pub run_append : (p : Progress) (xs ys : List ℕ) → run p (xs ++ ys) ≡ run (run p xs) ys
unfolding run
run_append p [] ys = refl
run_append p (x ∷ xs) ys = run_append (step p x) xs ys

pub run_more : (p : Progress) (bytes : List ℕ) (i : ℕ) → i < length bytes
    → run p (take (suc i) bytes) ≡ step (run p (take i bytes)) (get_or bytes i 0)
unfolding run
run_more p bytes i h =
    ap (run p) (take-suc bytes i 0 h) ∙ run_append p (take i bytes) (get_or bytes i 0 ∷ [])

-- the line that the progress tells
line : Bool → Progress → Line
line b p = record { ok = b; numbers = p.numbers }

pub line_is : (input : List ℕ) (p : Progress) (b : Bool) → p ≡ run nothing input → b ≡ (p.ok && eqb p.count 10)
    → ◌≡◌ {A = Line} (record { ok = b; numbers = p.numbers }) (line_of input)
unfolding line line_of
line_is input p b whole e = ap (λ (t : Bool). line t p) e ∙ ap (λ (s : Progress). line (s.ok && eqb s.count 10) s) whole
