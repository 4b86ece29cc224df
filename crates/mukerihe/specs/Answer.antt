-- A host's whole part as one call: both its messages are looked over, their shares multiplied, and the answer's message is written
-- (01, "Message, version 1" and "Exponents": an answer is A share times B share). That the two messages belong together, the sheet
-- does not ask: those tests have numbers of the libraries' own, from 1001 on.
-- g and h are the headers of messages a and b; the output has room for so many bytes.
--
--   pair_header g h            == the header of their answer
--   pair_tests g h room        == the tests of both messages together: kinds, modulus, host, job number, A's columns beside B's
--                                rows; then 6 and 13
--   host_answer a b            == the answer's message
--   host_answer_tests a b room  == the tests of the call: those of A's message, those of B's, those of both together
--   host_answer_after a b out   == what the output then holds: past the answer it is untouched
use Rattle.std.specs.Prelude.{◌||◌, List, [], ◌∷◌, ◌++◌, ℕ, ◌+◌, ◌*◌, ltb, length, drop}
use Rattle.refusal.specs.Chain.{Test, unless_refused, differs}
use Rattle.refusal.specs.Limits.{most_elements}
use Rattle.field.specs.Modulus.{modulus}
use Rattle.product.specs.Product.{product_of}
use Rattle.message_header.specs.declared.Header.{Header}
use Rattle.message_header.specs.Header.{header_of, element_count}
use Rattle.message.specs.Format.{message_of, elements, message_tests}

unfoldable pub pair_header : Header → Header → Header
pair_header g h =
    record { kind = 3; modulus = g.modulus; host = g.host; rows = g.rows; columns = h.columns; number = g.number }

-- 1002 is told by the bank's library alone. 6: the answer's block is too large; 13: the output is too short for the answer
unfoldable pub pair_tests : Header → Header → ℕ → List Test
pair_tests g h room =
    let count = element_count (pair_header g h) in
    (differs g.kind 1 || differs h.kind 2, 1001)
    ∷ (differs g.modulus h.modulus, 1003)
    ∷ (differs g.host h.host, 1004)
    ∷ (differs g.number h.number, 1005)
    ∷ (differs g.columns h.rows, 1006)
    ∷ (ltb most_elements count, 6)
    ∷ (ltb room (16 + 4 * count), 13) ∷ []

unfoldable pub host_answer : List ℕ → List ℕ → List ℕ
host_answer a b =
    let g = header_of a in
    let h = header_of b in
    message_of (pair_header g h) (product_of (modulus g.modulus) g.rows g.columns h.columns (elements a) (elements b))

unfoldable pub host_answer_tests : List ℕ → List ℕ → ℕ → List Test
host_answer_tests a b room = message_tests a ++ (message_tests b ++ pair_tests (header_of a) (header_of b) room)

unfoldable pub host_answer_after : List ℕ → List ℕ → List ℕ → List ℕ
host_answer_after a b out =
    unless_refused (host_answer_tests a b (length out)) (host_answer a b ++ drop (length (host_answer a b)) out) out
