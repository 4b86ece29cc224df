-- Both round trips (00, demand 2: a written message reads back to its fields, and every message that is read is the one that
-- writing those fields gives).
--
--   ReadsBack h xs      == the message with these fields and elements is made of bytes, is not refused, and reads back to them
--   IsWritten message   == a message is, byte for byte, the one that writing its fields and elements gives, and this is not refused
--   RoundTrips          == every message that is written reads back, and every message that is read is written;
--                          the same of the calls, one after the other
use Rattle.std.specs.Prelude.{◌≡◌, List, ◌++◌, ℕ, ◌+◌, ◌*◌, ◌^◌, ◌<◌, ◌≤◌, length, take, drop}
use Rattle.algebra.specs.Lists.{AllBelow}
use Rattle.refusal.specs.Chain.{first, done}
use Rattle.refusal.specs.Limits.{most_elements}
use Rattle.message_header.specs.declared.Header.{Header}
use Rattle.message_header.specs.Header.{header_of, element_count, fields}
use Rattle.message.specs.Format.{message_of, elements, write_tests, message_tests, written, read_as, read_into, told}

pub record ReadsBack (h : Header) (xs : List ℕ) : Type 0 where
  pub whole : length (message_of h xs) ≡ 16 + 4 * element_count h
  pub bytes : AllBelow 256 (message_of h xs)
  pub accepted : first (message_tests (message_of h xs)) ≡ 0
  pub same_header : header_of (message_of h xs) ≡ h
  pub same_elements : elements (message_of h xs) ≡ xs

pub record IsWritten (message : List ℕ) : Type 0 where
  pub accepted : first (write_tests (header_of message) (elements message) (length message)) ≡ 0
  pub same : message ≡ message_of (header_of message) (elements message)

-- a job number is a 32-bit value, a byte is below 256
pub record RoundTrips : Type 0 where
  pub written_reads : (h : Header) (xs : List ℕ) (room : ℕ) → h.number < 2 ^ 32 → first (write_tests h xs room) ≡ 0 → ReadsBack h xs
  pub read_written : (message : List ℕ) → AllBelow 256 message → first (message_tests message) ≡ 0 → IsWritten message
  pub write_then_read : (h : Header) (xs out store : List ℕ) → h.number < 2 ^ 32 → first (write_tests h xs (length out)) ≡ 0
      → most_elements ≤ length store
      → (told (read_as (written h xs out) (length store)) ≡ done (fields h))
      × (read_into (written h xs out) store ≡ xs ++ drop (length xs) store)
  pub read_then_write : (message out store : List ℕ) (h : Header) → AllBelow 256 message
      → told (read_as message (length store)) ≡ done (fields h)
      → length out ≡ length message
      → (first (write_tests h (take (element_count h) (read_into message store)) (length out)) ≡ 0)
      × (written h (take (element_count h) (read_into message store)) out ≡ message)
