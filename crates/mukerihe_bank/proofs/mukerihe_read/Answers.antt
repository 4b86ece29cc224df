-- `mukerihe_bank::mukerihe_read` meets its contract.
use mathlib.Core.Path.{◌≡◌, sym, ap, ◌∙◌}
use mathlib.Core.List.{List}
use Prim.Native.Nat.{ℕ}
use lib.ListN.{length}
use Rattle.std.specs.Prelude.{Result, Ok, Err}
use Rattle.refusal.specs.declared.Refusal.{Refusal}
use Rattle.refusal.specs.Chain.{first, unless_refused}
use Rattle.message_header.specs.Header.{header_of, fields}
use Rattle.message_header.specs.declared.Header.{Header}
use Rattle.message.specs.Format.{read_tests, read_as, told}
use Rattle.message.proofs.Outcomes.{read_told}
use Rattle.mukerihe_bank.specs.Bank.{counted}
use Rattle.mukerihe_bank.proofs.Outcomes.{unmoved, miscounted, kept, well_counted, made, or_was, told_values}
use Rattle.mukerihe_bank.proofs.mukerihe_read.Goals as goal

pub returns-then-fields-ne-FIELD_WORDS : goal.returns-then-fields-ne-FIELD_WORDS
returns-then-fields-ne-FIELD_WORDS c =
    let words = c.args.fields.now in
    let told = miscounted 6 words c.if-fields-ne-FIELD_WORDS.true _ in record { number = c.number.ensures ∙ told; elements = kept 6 words c.if-fields-ne-FIELD_WORDS.true _ _; fields = unmoved _ _ _ (sym told) }

-- what is told and left, whichever outcome it is, where the fields are six
outcome-is : (message : List ℕ) (room : ℕ) (was : List ℕ) → length was ≡ 6 → (r : Result Header Refusal) → r ≡ read_as message room
    → let tests = counted 6 was (read_tests message room) in
    ((told r).number ≡ first tests) × (or_was (told r).values was ≡ unless_refused tests (fields (header_of message)) was)
unfolding fields
outcome-is message room was same r e =
    told_values _ _ _ _ _ (well_counted 6 was same (read_tests message room)) (ap told e ∙ read_told message room)

pub returns-in-Err : goal.returns-in-Err
returns-in-Err c =
    let a = c.args in
    let same = c.if-fields-ne-FIELD_WORDS.false in
    let o = outcome-is a.message.now (length a.elements.now) a.fields.now same (Err c.in-Err.refusal) c.in-Err.ensures.outcome in
    record { number = c.number-in-Err.ensures ∙ o.0; elements = c.in-Err.ensures.elements ∙ sym (made 6 a.fields.now same _ _); fields = o.1 }

pub returns-in-Ok : goal.returns-in-Ok
unfolding fields
returns-in-Ok c =
    let a = c.args in
    let same = c.if-fields-ne-FIELD_WORDS.false in
    let h = c.in-Ok.h in
    let o = outcome-is a.message.now (length a.elements.now) a.fields.now same (Ok h) c.in-Ok.ensures.outcome in
    record {
      number = o.0;
      elements = c.in-Ok.ensures.elements ∙ sym (made 6 a.fields.now same _ _);
      fields = c.copy_from_slice.ensures.after ∙ o.1;
    }
