-- Headers and their fields.
--
--   header_is         a header, byte by byte
--   length_header     16 bytes
--   header_bytes      each below 256
--   mark_header, version_header  a message that was made begins with mark and version
--   header_of_header   the fields of a message are those that it was made of
--   header_header_of   the first 16 bytes of a message are the header with the fields that they tell
use mathlib.Core.Path.{◌≡◌, refl, sym, ap₂, ◌∙◌}
use mathlib.Core.List.{List, [], ◌∷◌, ◌++◌}
use Prim.Native.Nat.{ℕ, ◌+◌, ◌/◌, ◌%◌, ◌^◌, ◌<◌, ◌≤◌}
use native.Mathlib.Omega.{arith}
use lib.Dec.{lit≤}
use lib.ListN.{length, take}
use lib.Seq.{take-add}
use Rattle.algebra.specs.Lists.{AllBelow}
use Rattle.algebra.proofs.Lists.{below_append}
use Rattle.message_bytes.specs.Bytes.{big_endian, number_at}
use Rattle.message_bytes.proofs.Bytes.{big_endian_bytes, big_endian_number_at}
use Rattle.message_bytes.proofs.Words.{number_of_one, number_of_two, number_of_four}
use Rattle.message_header.specs.declared.Header.{Header}
use Rattle.message_header.specs.Header.{mark, version, header, header_of}
use Rattle.message_header.proofs.Fields.{Ranged}

module _ (h : Header) where
  pub header_is : header h
      ≡ 0x4D ∷ 0x44 ∷ 0x4F ∷ 0 ∷ 1
      ∷ h.kind % 256 ∷ h.modulus % 256 ∷ h.host % 256
      ∷ h.rows / 256 % 256 ∷ h.rows % 256 ∷ h.columns / 256 % 256 ∷ h.columns % 256
      ∷ h.number / 16777216 % 256 ∷ h.number / 65536 % 256 ∷ h.number / 256 % 256 ∷ h.number % 256 ∷ []
  unfolding header mark version big_endian
  header_is =
      let first : h.number / 256 / 256 / 256 ≡ h.number / 16777216 = omega arith in
      let second : h.number / 256 / 256 ≡ h.number / 65536 = omega arith in
      rw (first, second)

  pub length_header : length (header h) ≡ 16
  unfolding header big_endian
  length_header = refl

  pub header_bytes : AllBelow 256 (header h)
  unfolding header
  header_bytes =
      let a = big_endian 3 mark in
      let b = a ++ big_endian 2 version in
      let c = b ++ big_endian 1 h.kind in
      let d = c ++ big_endian 1 h.modulus in
      let e = d ++ big_endian 1 h.host in
      let f = e ++ big_endian 2 h.rows in
      let g = f ++ big_endian 2 h.columns in
      more g 4 _ (more f 2 _ (more e 2 _ (more d 1 _ (more c 1 _ (more b 1 _ (more a 2 _ (big_endian_bytes 3 mark)))))))
    where
      more : (xs : List ℕ) (w x : ℕ) → AllBelow 256 xs → AllBelow 256 (xs ++ big_endian w x)
      more xs w x below = below_append 256 xs (big_endian w x) below (big_endian_bytes w x)

  module _ (rest : List ℕ) where
    pub mark_header : number_at (header h ++ rest) 0 3 ≡ mark
    unfolding header mark big_endian number_at
    mark_header = refl

    pub version_header : number_at (header h ++ rest) 3 2 ≡ version
    unfolding header mark version big_endian number_at
    version_header = refl

    pub header_of_header : Ranged h → h.number < 2 ^ 32 → header_of (header h ++ rest) ≡ h
    unfolding header_of header mark version big_endian
    header_of_header r small =
        let kind : number_at (header h ++ rest) 5 1 ≡ h.kind = number_of_one (header h ++ rest) 5 ∙ omega arith in
        let modulus : number_at (header h ++ rest) 6 1 ≡ h.modulus = number_of_one (header h ++ rest) 6 ∙ omega arith in
        let host : number_at (header h ++ rest) 7 1 ≡ h.host = number_of_one (header h ++ rest) 7 ∙ omega arith in
        let rows : number_at (header h ++ rest) 8 2 ≡ h.rows = number_of_two (header h ++ rest) 8 ∙ omega arith in
        let columns : number_at (header h ++ rest) 10 2 ≡ h.columns = number_of_two (header h ++ rest) 10 ∙ omega arith in
        let number : number_at (header h ++ rest) 12 4 ≡ h.number = number_of_four (header h ++ rest) 12 ∙ omega arith in
        λ i. record { kind = kind i; modulus = modulus i; host = host i; rows = rows i; columns = columns i; number = number i }

module _ (message : List ℕ) (bytes : AllBelow 256 message) (long : 16 ≤ length message) where
  -- the first n bytes, and a field after them
  join : (n w : ℕ) {front : List ℕ} → n + w ≤ 16 → front ≡ take n message → front ++ big_endian w (number_at message n w) ≡ take (n + w) message
  join n w l e = ap₂ (λ (xs ys : List ℕ). xs ++ ys) e (big_endian_number_at message n w bytes (omega arith)) ∙ sym (take-add n w message)

  pub header_header_of : number_at message 0 3 ≡ mark → number_at message 3 2 ≡ version → header (header_of message) ≡ take 16 message
  unfolding header header_of
  header_header_of m v =
      rw (← m, ← v)
      (join 12 4 (lit≤ tt) (join 10 2 (lit≤ tt) (join 8 2 (lit≤ tt) (join 7 1 (lit≤ tt)
      (join 6 1 (lit≤ tt) (join 5 1 (lit≤ tt) (join 3 2 (lit≤ tt) (big_endian_number_at message 0 3 bytes (omega arith)))))))))
