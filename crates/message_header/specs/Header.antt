-- The header of a message, version 1 (01, "Message, version 1" and "What is turned down").
--
--   mark, version        == bytes 0 to 2, "MDO", and 3 to 4, each as one number
--   header h             == bytes 0 to 15: mark, version, kind, modulus, host, rows, columns, job number
--   header_of message     == the fields that a message's bytes tell
--   element_count h       == rows times columns
--   field_tests h         == the tests of the fields: 16, 1, 12, 2, 6
--   header_tests message  == the tests of a message's header: 17, 18, 19, and those of its fields
--   fields h             == the fields, in the order of the bytes
use Rattle.std.specs.Prelude.{◌||◌, List, [], ◌∷◌, ◌++◌, ℕ, ◌*◌, ltb, length}
use Rattle.refusal.specs.Chain.{Test, outside, differs}
use Rattle.refusal.specs.Limits.{most_elements}
use Rattle.field.specs.Modulus.{no_modulus}
use Rattle.message_bytes.specs.Bytes.{big_endian, number_at}
use Rattle.message_header.specs.declared.Header.{Header}

unfoldable pub mark : ℕ
mark = 0x4D444F

unfoldable pub version : ℕ
version = 1

unfoldable pub header : Header → List ℕ
header h =
    big_endian 3 mark ++ big_endian 2 version ++ big_endian 1 h.kind ++ big_endian 1 h.modulus ++ big_endian 1 h.host
    ++ big_endian 2 h.rows ++ big_endian 2 h.columns ++ big_endian 4 h.number

unfoldable pub header_of : List ℕ → Header
header_of message = record {
  kind = number_at message 5 1;
  modulus = number_at message 6 1;
  host = number_at message 7 1;
  rows = number_at message 8 2;
  columns = number_at message 10 2;
  number = number_at message 12 4;
}

unfoldable pub element_count : Header → ℕ
element_count h = h.rows * h.columns

-- kind 1 is an A share, 2 a B share, 3 an answer
unfoldable pub field_tests : Header → List Test
field_tests h =
    (outside 1 3 h.kind, 16)
    ∷ (no_modulus h.modulus, 1)
    ∷ (outside 1 64 h.host, 12)
    ∷ (outside 1 16384 h.rows || outside 1 16384 h.columns, 2)
    ∷ (ltb most_elements (element_count h), 6) ∷ []

unfoldable pub header_tests : List ℕ → List Test
header_tests message =
    (ltb (length message) 16, 17)
    ∷ (differs (number_at message 0 3) mark, 18)
    ∷ (differs (number_at message 3 2) version, 19)
    ∷ field_tests (header_of message)

unfoldable pub fields : Header → List ℕ
fields h = h.kind ∷ h.modulus ∷ h.host ∷ h.rows ∷ h.columns ∷ h.number ∷ []
