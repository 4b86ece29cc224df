-- What the tests of a message tell, and when they pass.
--
--   Writable h xs room  what the tests of writing ask
--   writable, writes  they pass where it holds, and only there
--   Readable message  what the tests of a message ask
--   readable, reads   they pass where it holds, and only there
--   small             elements that pass are 32-bit values
use mathlib.Core.Path.{◌≡◌, ap₂, ◌∙◌}
use mathlib.Core.Bool.{false, ◌||◌}
use mathlib.Core.List.{List}
use Prim.Native.Nat.{ℕ, ◌+◌, ◌*◌, ◌^◌}
use native.Mathlib.Omega.{arith}
use lib.ListN.{length}
use borrow.Author.Tests.{not-false}
use Rattle.algebra.specs.Lists.{AllBelow, all_below}
use Rattle.algebra.proofs.Lists.{all_below_test}
use Rattle.algebra.proofs.Tests.{or_left, or_right, equal, alike}
use Rattle.refusal.specs.Chain.{first, differs}
use Rattle.refusal.proofs.Chains.{first_none, first_miss, first_clear, first_append_clear}
use Rattle.field.specs.Modulus.{modulus}
use Rattle.message_header.specs.declared.Header.{Header}
use Rattle.message_header.specs.Header.{header_of, element_count, field_tests, header_tests}
use Rattle.message_header.proofs.Tests.{fields_numbered, header_numbered}
use Rattle.message_header.proofs.Fields.{Ranged, Headed, headed, heads}
use Rattle.message.specs.Format.{elements, element_test, write_tests, message_tests}
use Rattle.message.proofs.Tests.{past_fields, past_header}

module _ (h : Header) where
  pub record Writable (xs : List ℕ) (size : ℕ) : Type 0 where
    pub fields : first (field_tests h) ≡ 0
    pub count : length xs ≡ element_count h
    pub room : size ≡ 16 + 4 * element_count h
    pub below : element_test h.modulus xs ≡ false

  module _ (xs : List ℕ) (room : ℕ) where
    pub writable : first (write_tests h xs room) ≡ 0 → Writable xs room
    unfolding write_tests
    writable e =
        let count = differs (length xs) (element_count h) in
        let whole = differs room (16 + 4 * element_count h) in
        let fields = first_append_clear (field_tests h) _ (fields_numbered h) e in
        let lengths = first_clear _ 12 _ fields.1 in
        let below = first_clear _ 13 _ lengths.1 in
        record {
          fields = fields.0;
          count = equal _ _ (or_left count whole lengths.0);
          room = equal _ _ (or_right count whole lengths.0);
          below = below.0;
        }

    pub writes : Writable xs room → first (write_tests h xs room) ≡ 0
    writes w =
        past_fields h xs room w.fields
        ∙ first_miss _ 13 _ (ap₂ ◌||◌ (alike (length xs) (element_count h) w.count) (alike room (16 + 4 * element_count h) w.room))
        ∙ first_miss _ 14 _ w.below
        ∙ first_none

pub record Readable (message : List ℕ) : Type 0 where
  pub head : Headed message
  pub whole : length message ≡ 16 + 4 * element_count (header_of message)
  pub below : element_test (header_of message).modulus (elements message) ≡ false

module _ (message : List ℕ) where
  pub readable : first (message_tests message) ≡ 0 → Readable message
  unfolding message_tests
  readable e =
      let head = first_append_clear (header_tests message) _ (header_numbered message) e in
      let whole = first_clear _ 19 _ head.1 in
      let below = first_clear _ 13 _ whole.1 in
      record {
        head = headed message head.0;
        whole = equal _ _ whole.0;
        below = below.0;
      }

  pub reads : Readable message → first (message_tests message) ≡ 0
  reads r =
      past_header message (heads message r.head)
      ∙ first_miss _ 20 _ (alike _ _ r.whole)
      ∙ first_miss _ 14 _ r.below
      ∙ first_none

pub small : (h : Header) (xs : List ℕ) → Ranged h → element_test h.modulus xs ≡ false → AllBelow (2 ^ 32) xs
unfolding element_test
small h xs r e i l =
    omega (arith, all_below_test (modulus h.modulus) xs (not-false (all_below (modulus h.modulus) xs) e) i l, r.prime)
