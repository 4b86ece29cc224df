-- A block of the store is written over, or compared.
--
--   put_part    the elements part of a whole message is read into the block
--   same_part   the elements part of a message is compared with the block
use mathlib.Core.Path.{◌≡◌, ap, ap₂, ◌∙◌}
use mathlib.Core.List.{List, ◌++◌, append-nil}
use Prim.Native.Nat.{ℕ, ◌+◌, ◌*◌, ◌≤◌}
use native.Mathlib.Omega.{arith}
use lib.ListN.{length, take, drop, length-drop, drop_of_length-le}
use lib.Seq.{length-take-le, drop-drop}
use Rattle.algebra.specs.Lists.{same}
use Rattle.algebra.proofs.Lists.{rest_is}
use Rattle.message_bytes.specs.Bytes.{bytes_of, elements_of}
use Rattle.message_bytes.specs.Internal.{common}
use Rattle.message_header.specs.Header.{header_of, element_count}
use Rattle.message.specs.Format.{payload, elements}
use Rattle.message.proofs.Parts.{Rest, read_part}
use Rattle.arrival.specs.Arriving.{block_at, with_block, host_index, repeated}

module _ (message store : List ℕ) (size index : ℕ) (count : element_count (header_of message) ≡ size) (whole : length message ≡ 16 + 4 * size)
    (fits : index * size + size ≤ length store) where
  -- the block, as it is lent
  abbrev lent : ℕ → List ℕ
  lent n = take n (drop (index * size) store)

  pub put_part : (n : ℕ) (part : List ℕ) → n ≡ size
      → part ≡ elements_of (common (Rest message) (lent n)) (Rest message) ++ drop (common (Rest message) (lent n)) (lent n)
      → take (index * size) store ++ (part ++ drop n (drop (index * size) store)) ≡ with_block size store index (elements message)
  unfolding with_block
  put_part n part all is =
      let wide : length (lent n) ≡ size = length-take-le n (drop (index * size) store) (omega (arith, length-drop (index * size) store)) ∙ all in
      let full = drop_of_length-le (lent n) {i = element_count (header_of message)} (omega (arith, count, wide)) in
      let read : part ≡ elements message
      = is ∙ read_part message (omega (arith, count)) (lent n) (omega (arith, count, wide)) ∙ ap (λ (l : List ℕ). elements message ++ l) full ∙ append-nil (elements message) in
      ap₂ (λ (l r : List ℕ). take (index * size) store ++ (l ++ r)) read
      (drop-drop n (index * size) store ∙ ap (λ (k : ℕ). drop (index * size + k) store) all)

pub same_part : (message store : List ℕ) (size index n : ℕ) → index ≡ host_index (header_of message) → n ≡ size
    → same (Rest message) (bytes_of (take n (drop (index * size) store))) ≡ repeated size store message
unfolding repeated payload block_at
same_part message store size index n own all =
    ap₂ (λ (l r : List ℕ). same l (bytes_of r)) (rest_is message 16) (ap₂ (λ (k i : ℕ). take k (drop (i * size) store)) all own)
