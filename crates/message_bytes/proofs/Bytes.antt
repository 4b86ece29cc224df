-- Laws of numbers and elements as bytes.
--
--   length_big_endian            as many bytes as the width
--   big_endian_bytes             each byte is below 256
--   number_at_front              more bytes after it change no number
--   number_at_past               nor do some before it, by which its offset moves
--   number_at_big_endian          a number reads back from its bytes
--   big_endian_number_at          bytes come back from the number that they hold
--   length_bytes_of              4 bytes for each element
--   bytes_of_append              one list of elements after another
--   bytes_of_bytes               each of them is below 256
--   elements_of_bytes           elements read back from their bytes
--   bytes_of_elements           bytes come back from the elements that they hold
--   same_elements               whether bytes are those of some elements, by the elements that they hold
use mathlib.Core.Path.{◌≡◌, refl, sym, ap, ap₂, ◌∙◌}
use mathlib.Core.Bool.{true}
use mathlib.Core.List.{List, [], ◌∷◌, ◌++◌, append_assoc, append-nil}
use Prim.Native.Nat.{ℕ, zero, suc, ◌+◌, ◌*◌, ◌/◌, ◌%◌, ◌^◌, ◌<◌, ◌≤◌}
use native.Mathlib.Nat.{le_of_suc-le-suc, not-suc-le-zero, pow-suc}
use native.Mathlib.Omega.{arith}
use lib.ListN.{length, get_or, take, drop, length-append, length-drop, get_or-append}
use lib.Seq.{get_or-append-add, get_or_at, take-add, take-suc, take_all, get_or-drop, ext_get_or}
use Rattle.algebra.specs.Lists.{tab, AllBelow, same}
use Rattle.algebra.proofs.Lists.{length_tab, get_or_tab, below_append, same_refl, same_eq}
use Rattle.algebra.proofs.Tests.{tests_alike}
use Rattle.message_bytes.specs.Bytes.{big_endian, number_at, bytes_of, elements_of}

pub length_big_endian : (width x : ℕ) → length (big_endian width x) ≡ width
unfolding big_endian
length_big_endian zero x = refl
length_big_endian (suc width) x =
    omega (arith, length-append (big_endian width (x / 256)) (x % 256 ∷ []), length_big_endian width (x / 256))

below_one : (q x : ℕ) → x < q → AllBelow q (x ∷ [])
below_one q x l zero h = l
below_one q x l (suc i) h = absurd (not-suc-le-zero (le_of_suc-le-suc h))

pub big_endian_bytes : (width x : ℕ) → AllBelow 256 (big_endian width x)
unfolding big_endian
big_endian_bytes zero x i h = absurd (not-suc-le-zero h)
big_endian_bytes (suc width) x i h =
    below_append 256 (big_endian width (x / 256)) (x % 256 ∷ []) (big_endian_bytes width (x / 256)) (below_one 256 (x % 256) (omega arith)) i h

-- ---- numbers in longer lists

pub number_at_front : (xs ys : List ℕ) (start width : ℕ) → start + width ≤ length xs → number_at (xs ++ ys) start width ≡ number_at xs start width
unfolding number_at
number_at_front xs ys start zero h = refl
number_at_front xs ys start (suc width) h =
    ap₂ (λ (n b : ℕ). n * 256 + b) (number_at_front xs ys start width (omega arith)) (get_or-append xs ys 0 (start + width) (omega arith))

pub number_at_past : (xs ys : List ℕ) (n start width : ℕ) → length xs ≡ n → number_at (xs ++ ys) (n + start) width ≡ number_at ys start width
unfolding number_at
number_at_past xs ys n start zero e = refl
number_at_past xs ys n start (suc width) e =
    let moved : n + start + width ≡ length xs + (start + width) = omega arith in
    ap₂ (λ (n b : ℕ). n * 256 + b) (number_at_past xs ys n start width e)
    (ap (λ (k : ℕ). get_or (xs ++ ys) k 0) moved ∙ get_or-append-add xs ys (start + width) 0)

-- ---- a number and its bytes

pub number_at_big_endian : (width x : ℕ) → x < 256 ^ width → number_at (big_endian width x) 0 width ≡ x
unfolding number_at big_endian
number_at_big_endian zero x h = omega arith
number_at_big_endian (suc width) x h =
    let high = big_endian width (x / 256) in
    let n = length_big_endian width (x / 256) in
    let low : get_or (high ++ (x % 256 ∷ [])) (0 + width) 0 ≡ x % 256 = get_or_at high (x % 256) [] 0 (0 + width) (omega arith) in
    let rest : x / 256 < 256 ^ width = omega (arith, pow-suc 256 width) in
    let front = number_at_front high (x % 256 ∷ []) 0 width (omega arith) ∙ number_at_big_endian width (x / 256) rest in
    omega (arith, low, ap (λ (k : ℕ). k * 256) front)

pub big_endian_number_at : (bytes : List ℕ) (start width : ℕ) → AllBelow 256 bytes → start + width ≤ length bytes
    → big_endian width (number_at bytes start width) ≡ take width (drop start bytes)
unfolding number_at big_endian
big_endian_number_at bytes start zero b h = refl
big_endian_number_at bytes start (suc width) b h =
    let n = number_at bytes start width in
    let x = get_or bytes (start + width) 0 in
    let small : x < 256 = b (start + width) (omega arith) in
    let high : (n * 256 + x) / 256 ≡ n = omega arith in
    let low : (n * 256 + x) % 256 ≡ x = omega arith in
    let same : x ≡ get_or (drop start bytes) width 0 = sym (get_or-drop start bytes width 0) in
    ap₂ (λ (k y : ℕ). big_endian width k ++ (y ∷ [])) high (low ∙ same)
    ∙ ap (λ (xs : List ℕ). xs ++ (get_or (drop start bytes) width 0 ∷ [])) (big_endian_number_at bytes start width b (omega arith))
    ∙ sym (take-suc (drop start bytes) width 0 (omega (arith, length-drop start bytes)))

-- ---- elements and their bytes

pub length_bytes_of : (xs : List ℕ) → length (bytes_of xs) ≡ 4 * length xs
unfolding bytes_of
length_bytes_of [] = refl
length_bytes_of (x ∷ xs) = omega (arith, length-append (big_endian 4 x) (bytes_of xs), length_big_endian 4 x, length_bytes_of xs)

pub bytes_of_append : (xs ys : List ℕ) → bytes_of (xs ++ ys) ≡ bytes_of xs ++ bytes_of ys
unfolding bytes_of
bytes_of_append [] ys = refl
bytes_of_append (x ∷ xs) ys =
    ap (λ (bytes : List ℕ). big_endian 4 x ++ bytes) (bytes_of_append xs ys) ∙ sym (append_assoc (big_endian 4 x) (bytes_of xs) (bytes_of ys))

pub bytes_of_bytes : (xs : List ℕ) → AllBelow 256 (bytes_of xs)
unfolding bytes_of
bytes_of_bytes [] i h = absurd (not-suc-le-zero h)
bytes_of_bytes (x ∷ xs) i h = below_append 256 (big_endian 4 x) (bytes_of xs) (big_endian_bytes 4 x) (bytes_of_bytes xs) i h

element_back : (xs : List ℕ) (i : ℕ) → AllBelow (2 ^ 32) xs → i < length xs → number_at (bytes_of xs) (i * 4) 4 ≡ get_or xs i 0
unfolding bytes_of
element_back [] i b h = absurd (not-suc-le-zero h)
element_back (x ∷ xs) zero b h =
    number_at_front (big_endian 4 x) (bytes_of xs) 0 4 (omega (arith, length_big_endian 4 x)) ∙ number_at_big_endian 4 x (b 0 h)
element_back (x ∷ xs) (suc i) b h =
    let moved : suc i * 4 ≡ 4 + i * 4 = omega arith in
    ap (λ (k : ℕ). number_at (big_endian 4 x ++ bytes_of xs) k 4) moved
    ∙ number_at_past (big_endian 4 x) (bytes_of xs) 4 (i * 4) 4 (length_big_endian 4 x)
    ∙ element_back xs i (λ j l. b (suc j) (omega arith)) (le_of_suc-le-suc h)

pub elements_of_bytes : (xs : List ℕ) → AllBelow (2 ^ 32) xs → elements_of (length xs) (bytes_of xs) ≡ xs
unfolding elements_of
elements_of_bytes xs b =
    let f : ℕ → ℕ = λ i. number_at (bytes_of xs) (i * 4) 4 in
    let n = length_tab f (length xs) in
    ext_get_or 0 (tab f (length xs)) xs n
    (λ i h. get_or_tab f (length xs) i 0 (omega arith) ∙ element_back xs i b (omega arith))

first_elements : (n : ℕ) (bytes : List ℕ) → AllBelow 256 bytes → n * 4 ≤ length bytes → bytes_of (elements_of n bytes) ≡ take (n * 4) bytes
unfolding elements_of bytes_of tab
first_elements zero bytes b h = refl
first_elements (suc n) bytes b h =
    let x = number_at bytes (n * 4) 4 in
    let end : n * 4 + 4 ≡ suc n * 4 = omega arith in
    bytes_of_append (elements_of n bytes) (x ∷ [])
    ∙ ap₂ (λ (xs ys : List ℕ). xs ++ ys) (first_elements n bytes b (omega arith))
    (append-nil (big_endian 4 x) ∙ big_endian_number_at bytes (n * 4) 4 b (omega arith))
    ∙ sym (take-add (n * 4) 4 bytes)
    ∙ ap (λ (k : ℕ). take k bytes) end

pub bytes_of_elements : (n : ℕ) (bytes : List ℕ) → AllBelow 256 bytes → length bytes ≡ 4 * n → bytes_of (elements_of n bytes) ≡ bytes
bytes_of_elements n bytes b e = first_elements n bytes b (omega arith) ∙ take_all (n * 4) bytes (omega arith)

pub same_elements : (bytes xs : List ℕ) → AllBelow 256 bytes → AllBelow (2 ^ 32) xs → length bytes ≡ 4 * length xs
    → same bytes (bytes_of xs) ≡ same (elements_of (length xs) bytes) xs
same_elements bytes xs b small whole =
    tests_alike (same bytes (bytes_of xs)) (same (elements_of (length xs) bytes) xs)
    (λ (t : same bytes (bytes_of xs) ≡ true).
    ap (λ (l : List ℕ). same l xs) (ap (elements_of (length xs)) (same_eq bytes (bytes_of xs) t) ∙ elements_of_bytes xs small) ∙ same_refl xs)
    (λ (t : same (elements_of (length xs) bytes) xs ≡ true).
    ap (same bytes) (sym (ap bytes_of (same_eq (elements_of (length xs) bytes) xs t)) ∙ bytes_of_elements (length xs) bytes b whole) ∙ same_refl bytes)
