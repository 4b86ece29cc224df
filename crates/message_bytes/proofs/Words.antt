-- Numbers of one, two and four bytes, and elements.
--
--   number_of_one, number_of_two, number_of_four    a number by its bytes
--   length_elements, element_is                     the elements of bytes, one by one
--   bytes_of_four                                   the bytes of a number of four bytes, one by one
--   write_four                                      one more element is written as its four bytes
--   written_exact                                   elements written where they just fit
--   no_bit_differs                                  differing bits are gathered: none is found where two numbers are equal
--   each_below                                       whether each element is below a number, from a search for one that is not
use mathlib.Core.Path.{◌≡◌, sym, ap, ap₂, ◌∙◌}
use mathlib.Core.Bool.{Bool, true, false, ◌&&◌, and-eq-true_iff}
use mathlib.Core.List.{List, [], ◌∷◌, ◌++◌, append_assoc, append-nil}
use Prim.Native.Nat.{ℕ, ◌+◌, ◌-◌, ◌*◌, ◌/◌, ◌%◌, ◌<◌, ◌≤◌, min}
use native.Mathlib.Nat.{zero-add, add-zero}
use native.Mathlib.Numerals.{add-one}
use native.Mathlib.Omega.{arith}
use borrow.Rule.Slice.PartMut.{put_mid}
use lib.Bits.{bit_or, bit_xor, or_add_and, xor_add_and, and_le_l, and_le_r, xor_self}
use lib.Dec.{eqb}
use lib.ListN.{length, get_or, take, drop, drop_of_length-le}
use lib.Seq.{take-suc, take-length, take_at, drop_at, drop-drop, length-take-le}
use borrow.Author.Tests.{eqb-true, eq-eqb}
use Rattle.std.specs.Bool.{MatchBool}
use Rattle.std.specs.List.{range_with_len, AllWithin, HoldsAt}
use Rattle.std.proofs.lemmas.List.FromFn.{length-range_with_len, get_or-range_with_len}
use Rattle.algebra.specs.Lists.{all_below}
use Rattle.algebra.proofs.Lists.{length_tab, get_or_tab, below_test, below_stop}
use Rattle.algebra.proofs.Tests.{tests_alike}
use Rattle.message_bytes.specs.Bytes.{big_endian, number_at, bytes_of, elements_of}
use Rattle.message_bytes.specs.Internal.{common}
use Rattle.message_bytes.proofs.Bytes.{length_bytes_of, bytes_of_append}

module _ (bytes : List ℕ) (start : ℕ) where
  pub number_of_one : number_at bytes start 1 ≡ get_or bytes start 0
  unfolding number_at
  number_of_one = omega (arith, ap (λ (k : ℕ). get_or bytes k 0) (add-zero start))

  pub number_of_two : number_at bytes start 2 ≡ get_or bytes start 0 * 256 + get_or bytes (start + 1) 0
  unfolding number_at
  number_of_two = omega (arith, number_of_one)

  pub number_of_four : number_at bytes start 4
      ≡ ((get_or bytes start 0 * 256 + get_or bytes (start + 1) 0) * 256 + get_or bytes (start + 2) 0) * 256 + get_or bytes (start + 3) 0
  unfolding number_at
  number_of_four = omega (arith, number_of_two)

pub length_elements : (n : ℕ) (bytes : List ℕ) → length (elements_of n bytes) ≡ n
unfolding elements_of
length_elements n bytes = length_tab (λ (i : ℕ). number_at bytes (i * 4) 4) n

pub element_is : (n : ℕ) (bytes : List ℕ) (i : ℕ) → i < n → get_or (elements_of n bytes) i 0 ≡ number_at bytes (i * 4) 4
unfolding elements_of
element_is n bytes i h = get_or_tab (λ (k : ℕ). number_at bytes (k * 4) 4) n i 0 h

pub bytes_of_four : (x : ℕ) → big_endian 4 x ≡ x / 16777216 % 256 ∷ x / 65536 % 256 ∷ x / 256 % 256 ∷ x % 256 ∷ []
unfolding big_endian
bytes_of_four x =
    let third : x / 256 / 256 ≡ x / 65536 = omega arith in
    let fourth : x / 256 / 256 / 256 ≡ x / 16777216 = omega arith in
    ap₂ (λ (a b : ℕ). a % 256 ∷ b % 256 ∷ x / 256 % 256 ∷ x % 256 ∷ []) fourth third

bytes_more : (xs : List ℕ) (i : ℕ) → i < length xs → bytes_of (take (i + 1) xs) ≡ bytes_of (take i xs) ++ big_endian 4 (get_or xs i 0)
unfolding bytes_of
bytes_more xs i h =
    rw (add-one, take-suc xs i 0 h)
    (bytes_of_append (take i xs) (get_or xs i 0 ∷ []) ∙ ap (λ (l : List ℕ). bytes_of (take i xs) ++ l) (append-nil (big_endian 4 (get_or xs i 0))))

module _ (xs rest out : List ℕ) (i : ℕ) where
  pub write_four : out ≡ bytes_of (take i xs) ++ drop (i * 4) rest → i < length xs
      → put_mid (i * 4) (i * 4 + 4 - i * 4) out (big_endian 4 (get_or xs i 0)) ≡ bytes_of (take (i + 1) xs) ++ drop ((i + 1) * 4) rest
  write_four is h =
      let front = bytes_of (take i xs) in
      let four = big_endian 4 (get_or xs i 0) in
      let long : length front ≡ i * 4 = omega (arith, length_bytes_of (take i xs), length-take-le i xs (omega arith)) in
      let width : i * 4 + 4 - i * 4 ≡ 4 = omega arith in
      let end : i * 4 + 4 ≡ (i + 1) * 4 = omega arith in
      let kept : take (i * 4) out ≡ front = ap (take (i * 4)) is ∙ take_at front _ _ long in
      let back : drop (i * 4 + 4 - i * 4) (drop (i * 4) out) ≡ drop ((i + 1) * 4) rest
      = ap₂ drop width (ap (drop (i * 4)) is ∙ drop_at front _ _ long) ∙ drop-drop 4 (i * 4) rest ∙ ap (λ (k : ℕ). drop k rest) end in
      ap₂ (λ (l r : List ℕ). l ++ (four ++ r)) kept back
      ∙ sym (append_assoc front four (drop ((i + 1) * 4) rest))
      ∙ ap (λ (l : List ℕ). l ++ drop ((i + 1) * 4) rest) (sym (bytes_more xs i h))

pub written_exact : (out xs : List ℕ) → length out ≡ 4 * length xs → bytes_of (take (common out xs) xs) ++ drop (common out xs * 4) out ≡ bytes_of xs
unfolding common
written_exact out xs same =
    let all : min (length out / 4) (length xs) ≡ length xs = omega arith in
    rw (all, take-length xs, drop_of_length-le out {i = length xs * 4} (omega arith)) (append-nil (bytes_of xs))

pub no_bit_differs : (d a b : ℕ) → eqb (bit_or d (bit_xor a b)) 0 ≡ (eqb d 0 && eqb a b)
no_bit_differs d a b =
    let x = bit_xor a b in
    tests_alike (eqb (bit_or d x) 0) (eqb d 0 && eqb a b)
    (λ (t : eqb (bit_or d x) 0 ≡ true).
    let none = eqb-true (bit_or d x) 0 t in
    let before : d ≡ 0 = omega (arith, none, or_add_and d x, and_le_r d x) in
    let now : x ≡ 0 = omega (arith, none, or_add_and d x, and_le_l d x) in
    (and-eq-true_iff (eqb d 0) (eqb a b)).1
    (eq-eqb d 0 before, eq-eqb a b (omega (arith, now, xor_add_and a b, and_le_l a b, and_le_r a b))))
    (λ (t : (eqb d 0 && eqb a b) ≡ true).
    let parts = (and-eq-true_iff (eqb d 0) (eqb a b)).0 t in
    eq-eqb (bit_or d x) 0 (ap₂ (λ (c e : ℕ). bit_or c (bit_xor e b)) (eqb-true d 0 parts.0) (eqb-true a b parts.1) ∙ xor_self b))

pub each_below : (q n : ℕ) (bytes : List ℕ) (r : Bool)
    → MatchBool r (AllWithin (λ i. number_at bytes (i * 4) 4 < q) (range_with_len 0 n) 0 (length (range_with_len 0 n)))
    ((k : ℕ) × (k < length (range_with_len 0 n)) × HoldsAt (λ i. q ≤ number_at bytes (i * 4) 4) (range_with_len 0 n) k)
    → r ≡ all_below q (elements_of n bytes)
each_below q n bytes true each =
    sym (below_test q (elements_of n bytes)
    (λ i h.
    let l : i < n = omega (arith, length_elements n bytes) in
    let here = each i 0 (omega arith) (omega (arith, length-range_with_len 0 n)) in
    omega (arith, element_is n bytes i l, rw (get_or-range_with_len 0 n i 0 l, zero-add) at here)))
each_below q n bytes false (k, l, high) =
    let h : k < n = omega (arith, length-range_with_len 0 n) in
    let here = high 0 in
    sym (below_stop q (elements_of n bytes) k (omega (arith, length_elements n bytes))
    (omega (arith, element_is n bytes k h, rw (get_or-range_with_len 0 n k 0 h, zero-add) at here)))
