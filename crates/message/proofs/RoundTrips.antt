-- Both round trips (00, demand 2).
--
--   reads_back        every message that writing gives reads back
--   is_written        every message that is read is the one that writing its fields and elements gives
--   write_then_read   what writing leaves is read
--   read_then_write   what was read is written
--   round_trips       all of these
use mathlib.Core.Path.{◌≡◌, sym, ap, ap₂, ◌∙◌, subst}
use mathlib.Core.Logic.{⊎_elim}
use mathlib.Core.List.{List, ◌++◌}
use Prim.Native.Nat.{ℕ, ◌+◌, ◌*◌, ◌^◌, ◌<◌, ◌≤◌}
use native.Mathlib.Omega.{arith}
use lib.ListN.{length, take, drop, length-append, length-drop, take-append-drop}
use lib.Seq.{drop_at, get_or-drop, take_at}
use Rattle.algebra.specs.Lists.{AllBelow}
use Rattle.algebra.proofs.Lists.{below_append}
use Rattle.algebra.proofs.Orders.{le_or_lt}
use Rattle.refusal.specs.Chain.{first, done}
use Rattle.std.specs.Prelude.{Ok, Err}
use Rattle.refusal.specs.declared.Refusal.{Refusal}
use Rattle.refusal.proofs.Answered.{answered_done, is_done}
use Rattle.message_bytes.specs.Bytes.{bytes_of, elements_of}
use Rattle.message_bytes.proofs.Bytes.{length_bytes_of, bytes_of_bytes, elements_of_bytes, bytes_of_elements}
use Rattle.message_bytes.proofs.Words.{length_elements}
use Rattle.message_header.specs.declared.Header.{Header}
use Rattle.message_header.specs.Header.{header, header_of, element_count, field_tests, fields}
use Rattle.message_header.proofs.Fields.{Ranged, ranged}
use Rattle.message_header.proofs.Headers.{length_header, header_bytes, mark_header, version_header, header_of_header, header_header_of}
use Rattle.message.specs.Format.{message_of, payload, elements, element_test, write_tests, message_tests, written, examined, read_as, read_into, told}
use Rattle.message.specs.RoundTrips.{ReadsBack, IsWritten, RoundTrips}
use Rattle.message.proofs.Fields.{Writable, writable, writes, Readable, readable, reads, small}
use Rattle.message.proofs.Outcomes.{told_fields, written_done, read_short, read_long, read_done}

module _ (h : Header) (xs : List ℕ) (room : ℕ) (number : h.number < 2 ^ 32) (accepted : first (write_tests h xs room) ≡ 0) where
  w : Writable h xs room
  w = writable h xs room accepted

  r : Ranged h
  r = ranged h w.fields

  header_back : header_of (message_of h xs) ≡ h
  unfolding message_of
  header_back = header_of_header h (bytes_of xs) r number

  elements_back : elements (message_of h xs) ≡ xs
  unfolding elements payload message_of
  elements_back =
      ap₂ elements_of (ap element_count header_back ∙ sym w.count) (drop_at (header h) (bytes_of xs) 16 (length_header h))
      ∙ elements_of_bytes xs (small h xs r w.below)

  length_message : length (message_of h xs) ≡ 16 + 4 * element_count h
  unfolding message_of
  length_message = omega (arith, length-append (header h) (bytes_of xs), length_header h, length_bytes_of xs, w.count)

  pub reads_back : ReadsBack h xs
  unfolding message_of
  reads_back = record {
    whole = length_message;
    bytes = below_append 256 (header h) (bytes_of xs) (header_bytes h) (bytes_of_bytes xs);
    accepted =
        reads (message_of h xs)
        (record {
          head = record {
            long = omega (arith, length_message);
            mark = mark_header h (bytes_of xs);
            version = version_header h (bytes_of xs);
            fields = ap (λ (k : Header). first (field_tests k)) header_back ∙ w.fields;
          };
          whole = length_message ∙ ap (λ (k : Header). 16 + 4 * element_count k) (sym header_back);
          below = ap₂ (λ (k : Header) (ys : List ℕ). element_test k.modulus ys) header_back elements_back ∙ w.below;
        });
    same_header = header_back;
    same_elements = elements_back;
  }

module _ (message : List ℕ) (bytes : AllBelow 256 message) (accepted : first (message_tests message) ≡ 0) where
  m : Readable message
  m = readable message accepted

  payload_bytes : AllBelow 256 (payload message)
  unfolding payload
  payload_bytes i l =
      subst (λ (x : ℕ). x < 256) (sym (get_or-drop 16 message i 0)) (bytes (16 + i) (omega (arith, length-drop 16 message)))

  same_payload : bytes_of (elements message) ≡ payload message
  unfolding elements payload
  same_payload =
      bytes_of_elements (element_count (header_of message)) (payload message) payload_bytes (omega (arith, length-drop 16 message, m.whole))

  pub is_written : IsWritten message
  unfolding message_of payload elements
  is_written = record {
    accepted =
        writes (header_of message) (elements message) (length message)
        (record { fields = m.head.fields; count = length_elements _ _; room = m.whole; below = m.below });
    same =
        sym (ap₂ (λ (xs ys : List ℕ). xs ++ ys) (header_header_of message bytes m.head.long m.head.mark m.head.version) same_payload
        ∙ take-append-drop 16 message);
  }

module _ (h : Header) (xs out store : List ℕ) (number : h.number < 2 ^ 32) (accepted : first (write_tests h xs (length out)) ≡ 0)
    (room : 4096 ≤ length store) where
  back : ReadsBack h xs
  back = reads_back h xs (length out) number accepted

  same_count : element_count (header_of (message_of h xs)) ≡ length xs
  same_count = ap element_count back.same_header ∙ sym (writable h xs (length out) accepted).count

  write_then_read : (told (read_as (written h xs out) (length store)) ≡ done (fields h)) × (read_into (written h xs out) store ≡ xs ++ drop (length xs) store)
  unfolding examined
  write_then_read =
      let is = written_done h xs out accepted in (
        ap told
            (ap (λ (bytes : List ℕ). read_as bytes (length store)) is
            ∙ read_long (message_of h xs) (length store) room
            ∙ answered_done _ _ back.accepted
            ∙ ap Ok back.same_header),
        ap (λ (bytes : List ℕ). read_into bytes store) is
            ∙ read_done (message_of h xs) store room back.accepted
            ∙ ap₂ (λ (ys : List ℕ) (n : ℕ). ys ++ drop n store) back.same_elements same_count,
      )

module _ (message out store : List ℕ) (h : Header) (bytes : AllBelow 256 message) (read : told (read_as message (length store)) ≡ done (fields h))
    (whole : length out ≡ length message) where
  has_fields : read_as message (length store) ≡ Ok h
  has_fields = told_fields (read_as message (length store)) h read

  -- the output of reading was long enough
  room : 4096 ≤ length store
  room = ⊎_elim (λ (l : 4096 ≤ length store). l) (λ (l : length store < 4096). absurd (never (read_short message (length store) l)))
      (le_or_lt 4096 (length store))
    where
      never : read_as message (length store) ≡ Err Refusal.Length → ⊥
      never e = cc has_fields

  accepted : (first (message_tests message) ≡ 0) × (h ≡ header_of message)
  unfolding examined
  accepted = is_done _ _ _ (sym has_fields ∙ read_long message (length store) room)

  same_elements : take (element_count h) (read_into message store) ≡ elements message
  unfolding elements
  same_elements =
      ap₂ take (ap element_count accepted.1) (read_done message store room accepted.0)
      ∙ take_at (elements message) _ (element_count (header_of message)) (length_elements _ _)

  again : first (write_tests h (take (element_count h) (read_into message store)) (length out)) ≡ 0
  again =
      ap₂ (λ (k : Header) (n : ℕ). first (write_tests k (take (element_count h) (read_into message store)) n)) accepted.1 whole
      ∙ ap (λ (xs : List ℕ). first (write_tests (header_of message) xs (length message))) same_elements
      ∙ (is_written message bytes accepted.0).accepted

  read_then_write : (first (write_tests h (take (element_count h) (read_into message store)) (length out)) ≡ 0)
      × (written h (take (element_count h) (read_into message store)) out ≡ message)
  read_then_write = (
    again,
    written_done h (take (element_count h) (read_into message store)) out again
        ∙ ap₂ message_of accepted.1 same_elements
        ∙ sym (is_written message bytes accepted.0).same,
  )

pub round_trips : RoundTrips
round_trips = record {
  written_reads = reads_back;
  read_written = is_written;
  write_then_read = write_then_read;
  read_then_write = read_then_write;
}
