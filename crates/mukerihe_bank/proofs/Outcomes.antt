-- What the calls tell and leave, by how many words they are given and by their tests.
--
--   unmoved                  a call that tells 1002 leaves what it was
--   miscounted, well_counted the number where there are not n words, and where there are
--   kept, made               what a call of n words leaves then
--   turned_down, passed_on   both: the call tells 1002 and leaves what it was, or it does what a call without words does
--   miscounted_either        the words, or the room for the values, are not so many
--   told_value               an outcome that tells one value on paper: its number, and what the call leaves in the value's place
--   told_values              the same of a list of values
--   or_was                    the values that an outcome tells, or what was there where it tells none
--   told                     what C is told of a call without a value is what its tests tell
--   share_numbered, ..       each test of a call has a number
use mathlib.Core.Path.{◌≡◌, refl, sym, ap, ◌∙◌}
use mathlib.Core.Bool.{Bool, true, false, not, ◌||◌}
use mathlib.Core.List.{List, [], ◌∷◌}
use Prim.Native.Nat.{ℕ}
use native.Mathlib.Nat.{suc-ne-zero}
use lib.ListN.{length, get_or}
use borrow.Author.Tests.{ne_eqb}
use Rattle.algebra.proofs.Tests.{alike}
use lib.Dec.{T}
use Rattle.std.specs.Prelude.{Result}
use Rattle.refusal.specs.declared.Refusal.{Refusal}
use Rattle.refusal.specs.Numbers.{refusal_of, sheet}
use Rattle.refusal.specs.Chain.{Test, first, outcome, answered, number_in, unless_refused, Told, done, refused, differs}
use Rattle.refusal.proofs.Chains.{numbered, numbered_append, first_none, first_hit, first_miss, outcome_map, unless_done, unless_refused_lem, told_number}
use Rattle.refusal.proofs.Answered.{number_told}
use Rattle.plan.specs.declared.Job.{Job}
use Rattle.plan.specs.Planning.{plan_tests}
use Rattle.plan.proofs.Then.{plan_numbered}
use Rattle.share_side.specs.declared.Matrix.{Matrix}
use Rattle.share_side.specs.Sides.{matrix_tests}
use Rattle.share.specs.Sharing.{share_tests}
use Rattle.product.specs.Product.{product_tests}
use Rattle.message_header.specs.declared.Header.{Header}
use Rattle.message_header.specs.Header.{field_tests}
use Rattle.message.specs.Format.{write_tests}
use Rattle.decode.specs.Decoding.{table_tests, decode_tests}
use Rattle.page.specs.Page.{page_tests}
use Rattle.mukerihe_bank.specs.Bank.{counted, if_counted}

pub unmoved : {A : Type 0} (tests : List Test) (value was : A) → first tests ≡ 1002 → was ≡ unless_refused tests value was
unmoved tests value was e = sym (unless_refused_lem tests value was (λ z. suc-ne-zero 1001 (sym e ∙ z)))

module _ (n : ℕ) (words : List ℕ) where
  module _ (other : length words ≡ n → ⊥) where
    pub miscounted : (tests : List Test) → 1002 ≡ first (counted n words tests)
    unfolding counted
    miscounted tests = sym (first_hit (differs (length words) n) 1002 tests (ap not (ne_eqb (length words) n other)))

    pub kept : {A : Type 0} (value was : A) → was ≡ if_counted n words value was
    unfolding if_counted
    kept value was = unmoved (counted n words []) value was (sym (miscounted []))

    pub turned_down : {A : Type 0} (tests : List Test) (value was : A) → (1002 ≡ first (counted n words tests)) × (was ≡ if_counted n words value was)
    turned_down tests value was = (miscounted tests, kept value was)

  module _ (same : length words ≡ n) where
    pub well_counted : (tests : List Test) → first (counted n words tests) ≡ first tests
    unfolding counted
    well_counted tests = first_miss (differs (length words) n) 1002 tests (alike (length words) n same)

    pub made : {A : Type 0} (value was : A) → if_counted n words value was ≡ value
    unfolding if_counted
    made value was = unless_done (counted n words []) value was (well_counted [] ∙ first_none)

    pub passed_on : {A : Type 0} {r : ℕ} {after : A} (tests : List Test) (value was : A) → r ≡ first tests → after ≡ value
        → (r ≡ first (counted n words tests)) × (after ≡ if_counted n words value was)
    passed_on tests value was told is = (told ∙ sym (well_counted tests), is ∙ sym (made value was))

either_test : (a b : Bool) (n : ℕ) (tests : List Test) → (a || b) ≡ true → first ((a, n) ∷ (b, n) ∷ tests) ≡ n
either_test true b n tests e = first_hit true n ((b, n) ∷ tests) refl
either_test false b n tests e = first_miss false n ((b, n) ∷ tests) refl ∙ first_hit b n tests e

pub miscounted_either : (n : ℕ) (words : List ℕ) (k : ℕ) (room : List ℕ) (tests : List Test)
    → (differs (length words) n || differs (length room) k) ≡ true → first (counted n words (counted k room tests)) ≡ 1002
unfolding counted
miscounted_either n words k room tests = either_test (differs (length words) n) (differs (length room) k) 1002 tests

abbrev pub or_was : List ℕ → List ℕ → List ℕ
or_was [] was = was
or_was (v ∷ vs) was = v ∷ vs

pub told_value : {A : Type 0} (tests : List Test) {t : Told A} (v was : A) → t ≡ outcome (first tests) (done (v ∷ [])) refused
    → (t.number ≡ first tests) × (get_or t.values 0 was ≡ unless_refused tests v was)
unfolding unless_refused
told_value {A} tests v was e =
    let left : Told A → A = λ t. get_or t.values 0 was in
    (ap (λ (t : Told A). t.number) e ∙ told_number (v ∷ []) (first tests), ap left e ∙ outcome_map left (done (v ∷ [])) refused (first tests))

-- `own` are the tests without a count
pub told_values : (tests own : List Test) {t : Told ℕ} (v : ℕ) (vs was : List ℕ) → first tests ≡ first own
    → t ≡ outcome (first own) (done (v ∷ vs)) refused → (t.number ≡ first tests) × (or_was t.values was ≡ unless_refused tests (v ∷ vs) was)
unfolding unless_refused
told_values tests own {t} v vs was same e =
    let left : Told ℕ → List ℕ = λ t. or_was t.values was in
    let is : t ≡ outcome (first tests) (done (v ∷ vs)) refused = e ∙ ap (λ (n : ℕ). outcome n (done (v ∷ vs)) refused) (sym same) in
    (ap (λ (t : Told ℕ). t.number) is ∙ told_number (v ∷ vs) (first tests), ap left is ∙ outcome_map left (done (v ∷ vs)) refused (first tests))

-- ---- calls without a value

pub told : {r : Result Unit Refusal} (tests : List Test) → T (numbered tests) → r ≡ answered tests (tt {0}) → number_in r ≡ first tests
told tests t e = ap number_in e ∙ number_told tests (tt {0}) t

pub share_numbered : (m : Matrix) (job : Job) (points : List ℕ) (host : ℕ) (xs masks : List ℕ) (room : ℕ) → T (numbered (share_tests m job points host xs masks room))
unfolding share_tests matrix_tests numbered refusal_of sheet
share_numbered m job points host xs masks room = numbered_append (plan_tests job points) _ (plan_numbered job points) tt

pub product_numbered : (n rows inner columns : ℕ) (a b : List ℕ) (room : ℕ) → T (numbered (product_tests n rows inner columns a b room))
unfolding product_tests numbered refusal_of sheet
product_numbered n rows inner columns a b room = tt

pub write_numbered : (h : Header) (xs : List ℕ) (room : ℕ) → T (numbered (write_tests h xs room))
unfolding write_tests field_tests numbered refusal_of sheet
write_numbered h xs room = tt

pub decode_numbered : (job : Job) (points : List ℕ) (heard : ℕ) (store : List ℕ) (room : ℕ) → T (numbered (decode_tests job points heard store room))
unfolding decode_tests table_tests numbered refusal_of sheet
decode_numbered job points heard store room = numbered_append (plan_tests job points) _ (plan_numbered job points) tt

pub page_numbered : (n t r : ℕ) (table : List ℕ) (room : ℕ) → T (numbered (page_tests n t r table room))
unfolding page_tests numbered refusal_of sheet
page_numbered n t r table room = tt
