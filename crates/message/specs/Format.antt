-- Messages, version 1 (01, "Message, version 1" and "What is turned down"). The header is defined in the crate `message_header`.
--
--   message_of h xs         == header and elements: what writing gives
--   payload message        == the elements part, from byte 16 on
--   elements message       == the elements of a message, row by row
--   element_test n xs       == an element is not below the prime of modulus number n: the test of 14
--   write_tests h xs room   == the tests of writing, where the output has room for that many bytes
--   message_tests message   == the tests of a message: 17 to 14
--   read_tests message room == the tests of reading, where the output has room for that many elements
--   written h xs out       == what writing leaves in the output
--   examined message       == what looking a message over returns
--   read_as, read_into       == what reading returns, and what it leaves in the output: past rows times columns it is untouched
--   told parsed            == what the outcome of looking over or reading says on paper: its number, and the fields
use Rattle.std.specs.Prelude.{Bool, not, ◌||◌, List, [], ◌∷◌, ◌++◌, ℕ, ◌+◌, ◌*◌, ltb, length, drop, Result, Ok, Err}
use Rattle.algebra.specs.Lists.{all_below}
use Rattle.refusal.specs.declared.Refusal.{Refusal}
use Rattle.refusal.specs.Numbers.{number}
use Rattle.refusal.specs.Chain.{Test, answered, unless_refused, Told, done, refused, differs}
use Rattle.refusal.specs.Limits.{most_elements}
use Rattle.field.specs.Modulus.{modulus}
use Rattle.message_bytes.specs.Bytes.{bytes_of, elements_of}
use Rattle.message_header.specs.declared.Header.{Header}
use Rattle.message_header.specs.Header.{header, header_of, element_count, field_tests, header_tests, fields}

unfoldable pub message_of : Header → List ℕ → List ℕ
message_of h xs = header h ++ bytes_of xs

unfoldable pub payload : List ℕ → List ℕ
payload message = drop 16 message

unfoldable pub elements : List ℕ → List ℕ
elements message = elements_of (element_count (header_of message)) (payload message)

unfoldable pub element_test : ℕ → List ℕ → Bool
element_test n xs = not (all_below (modulus n) xs)

-- 13: elements or output not of exact length
unfoldable pub write_tests : Header → List ℕ → ℕ → List Test
write_tests h xs room =
    field_tests h
    ++ (differs (length xs) (element_count h) || differs room (16 + 4 * element_count h), 13)
    ∷ (element_test h.modulus xs, 14) ∷ []

unfoldable pub message_tests : List ℕ → List Test
message_tests message =
    header_tests message
    ++ (differs (length message) (16 + 4 * element_count (header_of message)), 20)
    ∷ (element_test (header_of message).modulus (elements message), 14) ∷ []

unfoldable pub read_tests : List ℕ → ℕ → List Test
read_tests message room = (ltb room most_elements, 13) ∷ message_tests message

unfoldable pub written : Header → List ℕ → List ℕ → List ℕ
written h xs out = unless_refused (write_tests h xs (length out)) (message_of h xs) out

unfoldable pub examined : List ℕ → Result Header Refusal
examined message = answered (message_tests message) (header_of message)

unfoldable pub read_as : List ℕ → ℕ → Result Header Refusal
read_as message room = answered (read_tests message room) (header_of message)

unfoldable pub read_into : List ℕ → List ℕ → List ℕ
read_into message out =
    unless_refused (read_tests message (length out)) (elements message ++ drop (element_count (header_of message)) out) out

abbrev pub told : Result Header Refusal → Told ℕ
told (Ok h) = done (fields h)
told (Err r) = refused (number r)
