-- Values computed from the definitions: an edit of a definition must change one of them.
--
--   share kind modulus host rows columns number   a header
--   a, b           those of an A share of 2 by 3 and a B share of 3 by 5, of host 7 and job 9
--   told g h room  the number of the first test of two headers that holds
--   alone          each number by itself: none, the kinds of A and of B, modulus, host, job number, inner size, block, room
--   ordered        each with all those after it
--   header_is      the header of their answer
--   message kind xs  a message of host 7 over q 13 with one element
--   answered       the answer to 5 and 4, of 20 bytes, in an output of 21; and an output of 19, which stays
--   told_of a b    the number of a call with these messages
--   messages_first both messages have a fault: A's is told; B's alone, before those of both together
use mathlib.Core.Path.{◌≡◌, refl}
use mathlib.Core.List.{List, [], ◌∷◌}
use Prim.Native.Nat.{ℕ}
use Rattle.algebra.specs.Lists.{tab, grid, entry, all_below}
use Rattle.algebra.specs.Sums.{sum}
use Rattle.refusal.specs.Chain.{first, outcome, unless_refused, outside}
use Rattle.field.specs.Modulus.{moduli, modulus, no_modulus}
use Rattle.message_bytes.specs.Bytes.{big_endian, number_at, bytes_of, elements_of}
use Rattle.message_header.specs.declared.Header.{Header}
use Rattle.message_header.specs.Header.{mark, version, header, header_of, element_count, fields, field_tests, header_tests}
use Rattle.message.specs.Format.{message_of, payload, elements, element_test, message_tests}
use Rattle.product.specs.Product.{product_entry, product_of}
use Rattle.mukerihe.specs.Answer.{pair_header, pair_tests, host_answer, host_answer_tests, host_answer_after}

abbrev share : ℕ → ℕ → ℕ → ℕ → ℕ → ℕ → Header
share kind modulus host rows columns number =
    record { kind = kind; modulus = modulus; host = host; rows = rows; columns = columns; number = number }

abbrev a : Header
a = share 1 2 7 2 3 9

abbrev b : Header
b = share 2 2 7 3 5 9

abbrev told : Header → Header → ℕ → ℕ
told g h room = first (pair_tests g h room)

-- 10 elements are 56 bytes with the header
alone : (told a b 56 ∷ told b b 56 ∷ told a a 56 ∷ told a (share 2 1 7 3 5 9) 56 ∷ told a (share 2 2 6 3 5 9) 56
    ∷ told a (share 2 2 7 3 5 8) 56 ∷ told a (share 2 2 7 4 5 9) 56 ∷ told (share 1 2 7 65 3 9) (share 2 2 7 3 64 9) 20000 ∷ told a b 55 ∷ [])
    ≡ 0 ∷ 1001 ∷ 1001 ∷ 1003 ∷ 1004 ∷ 1005 ∷ 1006 ∷ 6 ∷ 13 ∷ []
unfolding first pair_tests pair_header element_count
alone = refl

ordered : (told (share 2 2 7 65 3 9) (share 2 1 6 4 64 8) 0 ∷ told (share 1 2 7 65 3 9) (share 2 1 6 4 64 8) 0
    ∷ told (share 1 2 7 65 3 9) (share 2 2 6 4 64 8) 0 ∷ told (share 1 2 7 65 3 9) (share 2 2 7 4 64 8) 0
    ∷ told (share 1 2 7 65 3 9) (share 2 2 7 4 64 9) 0 ∷ told (share 1 2 7 65 3 9) (share 2 2 7 3 64 9) 0 ∷ [])
    ≡ 1001 ∷ 1003 ∷ 1004 ∷ 1005 ∷ 1006 ∷ 6 ∷ []
unfolding first pair_tests pair_header element_count
ordered = refl

header_is : fields (pair_header a (share 2 1 6 4 5 8)) ≡ 3 ∷ 2 ∷ 7 ∷ 2 ∷ 5 ∷ 9 ∷ []
unfolding fields pair_header
header_is = refl

abbrev message : ℕ → ℕ → List ℕ
message kind x = 0x4D ∷ 0x44 ∷ 0x4F ∷ 0 ∷ 1 ∷ kind ∷ 1 ∷ 7 ∷ 0 ∷ 1 ∷ 0 ∷ 1 ∷ 0 ∷ 0 ∷ 0 ∷ 9 ∷ 0 ∷ 0 ∷ 0 ∷ x ∷ []

answered : (host_answer_after (message 1 5) (message 2 4) (tab (λ i. 99) 21) ∷ host_answer_after (message 1 5) (message 2 4) (tab (λ i. 99) 19) ∷ [])
    ≡ (0x4D ∷ 0x44 ∷ 0x4F ∷ 0 ∷ 1 ∷ 3 ∷ 1 ∷ 7 ∷ 0 ∷ 1 ∷ 0 ∷ 1 ∷ 0 ∷ 0 ∷ 0 ∷ 9 ∷ 0 ∷ 0 ∷ 0 ∷ 7 ∷ 99 ∷ []) ∷ tab (λ i. 99) 19 ∷ []
unfolding tab all_below grid entry sum first outcome unless_refused outside moduli modulus no_modulus big_endian number_at bytes_of elements_of mark version header header_of element_count field_tests header_tests message_of payload elements element_test message_tests product_entry product_of pair_header pair_tests host_answer host_answer_tests host_answer_after
answered = refl

abbrev told_of : List ℕ → List ℕ → ℕ
told_of a b = first (host_answer_tests a b 20)

messages_first : (told_of (message 1 13) [] ∷ told_of (message 2 5) (message 2 13) ∷ told_of (message 2 5) (message 2 4) ∷ []) ≡ 14 ∷ 14 ∷ 1001 ∷ []
unfolding tab all_below first outside moduli modulus no_modulus number_at elements_of mark version header_of element_count field_tests header_tests payload elements element_test message_tests pair_header pair_tests host_answer_tests
messages_first = refl
