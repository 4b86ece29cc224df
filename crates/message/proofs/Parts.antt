-- The elements part of a message, as it is handed on.
--
--   Rest bytes            the bytes from offset 16 on
--   elements_part         the elements that this part of a whole message holds
--   read_part             what reading this part leaves in an output
--   copied_header         what copying a header to the front of an output leaves
--   written_part          what writing a header and then this part leaves
use mathlib.Core.Path.{◌≡◌, ap, ap₂, ◌∙◌}
use mathlib.Core.List.{List, ◌++◌, append-nil}
use Prim.Native.Nat.{ℕ, ◌+◌, ◌*◌, ◌/◌, ◌-◌, ◌≤◌, min}
use native.Mathlib.Omega.{arith}
use lib.ListN.{length, take, drop, length-append, length-drop, drop_of_length-le}
use lib.Seq.{take_all, take_at}
use Rattle.algebra.proofs.Lists.{rest_is}
use Rattle.message_bytes.specs.Bytes.{bytes_of, elements_of}
use Rattle.message_bytes.specs.Internal.{common}
use Rattle.message_bytes.proofs.Words.{written_exact}
use Rattle.message_header.specs.declared.Header.{Header}
use Rattle.message_header.specs.Header.{header, header_of, element_count}
use Rattle.message_header.proofs.Headers.{length_header}
use Rattle.message.specs.Format.{message_of, payload, elements}

abbrev pub Rest : List ℕ → List ℕ
Rest bytes = take (length bytes - 16) (drop 16 bytes)

module _ (bytes : List ℕ) (n : ℕ) (whole : length bytes ≡ 16 + 4 * n) where
  length_rest : length (Rest bytes) ≡ 4 * n
  length_rest = ap length (rest_is bytes 16) ∙ omega (arith, length-drop 16 bytes)

module _ (message : List ℕ) (whole : length message ≡ 16 + 4 * element_count (header_of message)) where
  pub elements_part : elements_of (length (Rest message) / 4) (Rest message) ≡ elements message
  unfolding elements payload
  elements_part =
      let count : length (Rest message) / 4 ≡ element_count (header_of message)
      = omega (arith, length_rest message (element_count (header_of message)) whole) in
      ap₂ elements_of count (rest_is message 16)

  pub read_part : (out : List ℕ) → element_count (header_of message) ≤ length out
      → elements_of (common (Rest message) out) (Rest message) ++ drop (common (Rest message) out) out
      ≡ elements message ++ drop (element_count (header_of message)) out
  unfolding elements payload common
  read_part out h =
      let n = length_rest message (element_count (header_of message)) whole in
      let count : common (Rest message) out ≡ element_count (header_of message) = omega arith in
      ap₂ (λ (n : ℕ) (p : List ℕ). elements_of n p ++ drop n out) count (rest_is message 16)

pub copied_header : (h : Header) {bytes : List ℕ} (out : List ℕ) → bytes ≡ header h → 16 ≤ length out
    → take (min (length bytes) (length out)) bytes ++ drop (min (length bytes) (length out)) out ≡ header h ++ drop 16 out
copied_header h out e long =
    let all : min (length (header h)) (length out) ≡ 16 = omega (arith, length_header h) in
    rw (e, all, take_all 16 (header h) (omega (arith, length_header h)))

module _ (h : Header) (xs out out' part : List ℕ) (whole : length out ≡ 16 + 4 * length xs) (head : out' ≡ header h ++ drop 16 out)
    (body : part ≡ bytes_of (take (common (Rest out') xs) xs) ++ drop (common (Rest out') xs * 4) (Rest out')) where
  same_length : length out' ≡ 16 + 4 * length xs
  same_length = ap length head ∙ omega (arith, length-append (header h) (drop 16 out), length_header h, length-drop 16 out)

  body_is : part ≡ bytes_of xs
  body_is = body ∙ written_exact (Rest out') xs (length_rest out' (length xs) same_length)

  pub written_part : take 16 out' ++ (part ++ drop (length out' - 16) (drop 16 out')) ≡ message_of h xs
  unfolding message_of
  written_part =
      let front = ap (take 16) head ∙ take_at (header h) (drop 16 out) 16 (length_header h) in
      let end = drop_of_length-le (drop 16 out') {i = length out' - 16} (omega (arith, length-drop 16 out')) in
      ap₂ (λ (ys zs : List ℕ). ys ++ (zs ++ drop (length out' - 16) (drop 16 out'))) front body_is
      ∙ ap (λ (ys : List ℕ). header h ++ (bytes_of xs ++ ys)) end
      ∙ ap (λ (ys : List ℕ). header h ++ ys) (append-nil (bytes_of xs))
