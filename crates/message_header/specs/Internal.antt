-- What the calls of this crate return, which only contracts cite.
--
--   kind_number k   == the number of a kind
--   kind_of n       == the kind of a number; a number of none is refused, so what stands here for it does not matter
--   checked h       == what the tests of the fields return: their modulus, or the refusal whose test holds first
--   opened message  == what reading a message's header returns: its fields and their modulus, or the refusal whose test holds
--                      first
use Rattle.std.specs.Prelude.{List, [], ◌∷◌, ℕ, get_or, Result}
use Rattle.refusal.specs.declared.Refusal.{Refusal}
use Rattle.refusal.specs.Chain.{answered}
use Rattle.field.specs.declared.Modulus.{Modulus}
use Rattle.field.specs.Modulus.{named, modulus_in}
use Rattle.message_header.specs.declared.Header.{Header}
use Rattle.message_header.specs.declared.Kind.{Kind}
use Rattle.message_header.specs.declared.Kind.TheVariants.{AShare, BShare, Answer}
use Rattle.message_header.specs.Header.{header_of, field_tests, header_tests}

abbrev pub kind_number : Kind → ℕ
kind_number AShare = 1
kind_number BShare = 2
kind_number Answer = 3

unfoldable pub kind_of : ℕ → Kind
kind_of n = get_or (AShare ∷ AShare ∷ BShare ∷ Answer ∷ []) n Answer

unfoldable pub checked : Header → Result Modulus Refusal
checked h = answered (field_tests h) (modulus_in (named h.modulus))

unfoldable pub opened : List ℕ → Result (Header × Modulus) Refusal
opened message =
    let h = header_of message in
    answered (header_tests message) (h, modulus_in (named h.modulus))
