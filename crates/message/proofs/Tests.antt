-- The tests of writing and of a message, one after the other.
--
--   message_numbered, read_numbered  every test of a message, and of reading it, has a number
--   past_fields, past_header   the tests of the fields, or of the header, have passed: the last two decide
--   element_named              the test of the elements, by the modulus's own prime
use mathlib.Core.Path.{◌≡◌, refl, ap}
use mathlib.Core.Bool.{not, ◌||◌}
use mathlib.Core.List.{List, [], ◌∷◌}
use Prim.Native.Nat.{ℕ, ◌+◌, ◌*◌}
use lib.Dec.{T}
use lib.ListN.{length}
use Rattle.algebra.specs.Lists.{all_below}
use Rattle.refusal.specs.Numbers.{refusal_of, sheet}
use Rattle.refusal.specs.Chain.{first, differs}
use Rattle.refusal.proofs.Chains.{numbered, first_append}
use Rattle.std.specs.Prelude.{Some}
use Rattle.field.specs.declared.Modulus.{Modulus}
use Rattle.field.specs.Modulus.{prime, named}
use Rattle.field.proofs.Moduli.{known}
use Rattle.message_header.specs.declared.Header.{Header}
use Rattle.message_header.specs.Header.{header_of, element_count, field_tests, header_tests}
use Rattle.message_header.proofs.Tests.{fields_numbered, header_numbered}
use Rattle.message.specs.Format.{elements, element_test, write_tests, message_tests, read_tests}

pub element_named : (n : ℕ) {m : Modulus} (xs : List ℕ) → named n ≡ Some m → element_test n xs ≡ not (all_below (prime m) xs)
unfolding element_test
element_named n xs e = ap (λ (q : ℕ). not (all_below q xs)) (known n e refl).is

module _ (h : Header) (xs : List ℕ) (room : ℕ) where
  pub past_fields : first (field_tests h) ≡ 0
      → first (write_tests h xs room)
      ≡ first
      ((differs (length xs) (element_count h) || differs room (16 + 4 * element_count h), 13) ∷ (element_test h.modulus xs, 14) ∷ [])
  unfolding write_tests
  past_fields fields = first_append (field_tests h) _ (fields_numbered h) fields

module _ (message : List ℕ) where
  pub message_numbered : T (numbered (message_tests message))
  unfolding message_tests header_tests field_tests numbered refusal_of sheet
  message_numbered = tt

  pub read_numbered : (room : ℕ) → T (numbered (read_tests message room))
  unfolding read_tests message_tests header_tests field_tests numbered refusal_of sheet
  read_numbered room = tt

  pub past_header : first (header_tests message) ≡ 0
      → first (message_tests message)
      ≡ first
      ((differs (length message) (16 + 4 * element_count (header_of message)), 20)
      ∷ (element_test (header_of message).modulus (elements message), 14)
      ∷ [])
  unfolding message_tests
  past_header head = first_append (header_tests message) _ (header_numbered message) head
