-- `message_header::header_fields` meets its contract.
use mathlib.Core.Path.{◌≡◌, sym, ◌∙◌}
use native.Mathlib.Omega.{arith}
use Rattle.message_bytes.specs.Bytes.{number_at}
use Rattle.message_bytes.proofs.Words.{number_of_one, number_of_two, number_of_four}
use Rattle.message_header.specs.Header.{header_of}
use Rattle.message_header.proofs.header_fields.Goals as goal

pub returns : goal.returns
unfolding header_of
returns c =
    let bytes = c.args.message.now in
    let number : c.from_be_bytes-3.result ≡ number_at bytes 12 4 = omega (arith, number_of_four bytes 12) in
    λ i. record {
      kind = (c.from.ensures ∙ sym (number_of_one bytes 5)) i;
      modulus = (c.from-2.ensures ∙ sym (number_of_one bytes 6)) i;
      host = (c.from-3.ensures ∙ sym (number_of_one bytes 7)) i;
      rows = (c.from-4.ensures ∙ c.from_be_bytes.ensures ∙ sym (number_of_two bytes 8)) i;
      columns = (c.from-5.ensures ∙ c.from_be_bytes-2.ensures ∙ sym (number_of_two bytes 10)) i;
      number = number i;
    }
