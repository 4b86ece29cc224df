-- `mukerihe_bank::mukerihe_write` meets its contract.
use mathlib.Core.Path.{ap, ◌∙◌}
use lib.ListN.{length}
use Rattle.refusal.specs.Chain.{first}
use Rattle.message_header.specs.declared.Header.{Header}
use Rattle.message.specs.Format.{write_tests, written}
use Rattle.mukerihe_bank.proofs.Outcomes.{turned_down, passed_on, told, write_numbered}
use Rattle.mukerihe_bank.proofs.mukerihe_write.Goals as goal

pub returns-then-fields-ne-FIELD_WORDS : goal.returns-then-fields-ne-FIELD_WORDS
returns-then-fields-ne-FIELD_WORDS c = let all = turned_down 6 c.args.fields.now c.if-fields-ne-FIELD_WORDS.true _ _ _ in record { number = c.number.ensures ∙ all.0; bytes = all.1 }

pub returns : goal.returns
returns c =
    let wrote = c.write_message.ensures in
    let is = c.header_of.ensures in
    let a = c.args in
    let number = c.number_of.ensures ∙ told (write_tests c.header_of.result a.elements.now (length a.out.now)) (write_numbered _ _ _) wrote.number in
    let all = passed_on 6 a.fields.now c.if-fields-ne-FIELD_WORDS.false _ _ _
    (number ∙ ap (λ (x : Header). first (write_tests x a.elements.now (length a.out.now))) is)
    (wrote.bytes ∙ ap (λ (x : Header). written x a.elements.now a.out.now) is) in record { number = all.0; bytes = all.1 }
