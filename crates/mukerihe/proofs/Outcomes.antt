-- The tests and the product on bytes are those on the elements that the bytes hold.
--
--   host_numbered     every test of the call has a number
--   counted_few       the elements of a buffer have room in a list that is long enough for them, or for the most that a block has
--   outcome_is        the product of the elements returns what that of the bytes has to
--   done              it was carried out: the output holds the product's bytes
use mathlib.Core.Path.{◌≡◌, refl, sym, ap, ap₂, ◌∙◌}
use mathlib.Core.Bool.{Bool, true, false, ◌||◌, true≢false}
use mathlib.Core.Logic.{⊎_elim}
use mathlib.Core.List.{List, [], ◌∷◌, ◌++◌}
use Prim.Native.Nat.{ℕ, ◌*◌, ◌/◌, ◌%◌, ◌≤◌, min}
use native.Mathlib.Nat.{mul-le-mul, min-le_right}
use native.Mathlib.Omega.{arith}
use lib.Dec.{T, eqb, ltb}
use lib.ListN.{length, take, drop, length-append, length-drop}
use lib.Seq.{take_at, length-take-le}
use borrow.Author.Tests.{eqb-true, eqb-false, eq-eqb, ne_eqb, ltb-false, le-ltb}
use Rattle.algebra.proofs.Tests.{by_test, or_left, or_right, or_all, equal, alike}
use Rattle.refusal.specs.Numbers.{refusal_of, sheet}
use Rattle.refusal.specs.Chain.{first, answered, differs}
use Rattle.refusal.specs.Limits.{most_elements, sizes_outside, over_block}
use Rattle.refusal.proofs.Chains.{numbered, first_clear, unless_done}
use Rattle.refusal.proofs.Limits.{within_all, blocks_fit}
use Rattle.field.specs.Modulus.{modulus}
use Rattle.message_bytes.specs.Bytes.{bytes_of, elements_of}
use Rattle.message_bytes.specs.Internal.{common}
use Rattle.message_bytes.proofs.Words.{length_elements, written_exact}
use Rattle.message_header.proofs.Outcomes.{answered_same}
use Rattle.product.specs.Product.{product_of, product_tests, product_after}
use Rattle.mukerihe.specs.Host.{host_tests, host_product, host_after}
use Rattle.mukerihe.specs.Internal.{whole_elements}

pub host_numbered : (n rows inner columns : ℕ) (a b : List ℕ) (room : ℕ) → T (numbered (host_tests n rows inner columns a b room))
unfolding host_tests numbered refusal_of sheet
host_numbered n rows inner columns a b room = tt

-- two tests of equal numbers that agree
eqb_same : (a b c d : ℕ) → (a ≡ b → c ≡ d) → (c ≡ d → a ≡ b) → eqb a b ≡ eqb c d
eqb_same a b c d there back =
    ⊎_elim (λ (t : eqb c d ≡ true). eq-eqb a b (back (eqb-true c d t)) ∙ sym t)
    (λ (f : eqb c d ≡ false). ne_eqb a b (λ e. eqb-false c d f (there e)) ∙ sym f)
    (by_test (eqb c d))

-- what the count of a buffer's elements tells: where they are no whole block, it is wrong for every block
module _ (bytes : ℕ) where
  abbrev unfit : Bool
  unfit = differs (bytes % 4) 0 || ltb most_elements (bytes / 4)

  few : whole_elements bytes ≤ min (bytes / 4) most_elements
  unfolding whole_elements
  few =
      ⊎_elim (λ (t : unfit ≡ true). rw t (omega arith))
      (λ (f : unfit ≡ false). let most = ltb-false most_elements (bytes / 4) (or_right (differs (bytes % 4) 0) _ f) in rw f (omega arith))
      (by_test unfit)

  pub counted_few : (n room : ℕ) → n ≡ whole_elements bytes → min (bytes / 4) most_elements ≤ room → n ≤ room
  counted_few n room e fits = omega (arith, few)

  exact : (n : ℕ) → 1 ≤ n → n ≤ most_elements → eqb (whole_elements bytes) n ≡ eqb bytes (4 * n)
  unfolding whole_elements
  exact n low high =
      ⊎_elim
      (λ (t : unfit ≡ true).
      rw t (eqb_same 0 n bytes (4 * n) (λ e. omega arith) (λ e. absurd (true≢false (sym t ∙ ap₂ ◌||◌ (alike (bytes % 4) 0 (omega arith)) (le-ltb most_elements (bytes / 4) (omega arith)))))))
      (λ (f : unfit ≡ false).
      let whole = equal (bytes % 4) 0 (or_left _ (ltb most_elements (bytes / 4)) f) in
      rw f (eqb_same (bytes / 4) n bytes (4 * n) (λ e. omega arith) (λ e. omega arith)))
      (by_test unfit)

-- the same first three rows, and after them tests that agree where it matters
same_first : (t u v x y x' y' : Bool) (k l m n o : ℕ) → (u ≡ false → v ≡ false → x ≡ x') → (t ≡ false → u ≡ false → v ≡ false → x' ≡ false → y ≡ y')
    → first ((t, k) ∷ (u, l) ∷ (v, m) ∷ (x, n) ∷ (y, o) ∷ []) ≡ first ((t, k) ∷ (u, l) ∷ (v, m) ∷ (x', n) ∷ (y', o) ∷ [])
unfolding first
same_first true u v x y x' y' k l m n o hx hy = refl
same_first false true v x y x' y' k l m n o hx hy = refl
same_first false false true x y x' y' k l m n o hx hy = refl
same_first false false false x y true y' k l m n o hx hy = rw (hx refl refl)
same_first false false false x y false y' k l m n o hx hy = rw (hx refl refl, hy refl refl refl refl)

-- as many elements as are counted, of those read from bytes into a list that has room for them
counted : List ℕ → List ℕ → ℕ → List ℕ
counted bytes old n = take n (elements_of (common bytes old) bytes ++ drop (common bytes old) old)

counted_exact : (bytes old : List ℕ) (n : ℕ) → n ≤ length old → length bytes ≡ 4 * n → counted bytes old n ≡ elements_of n bytes
unfolding counted common
counted_exact bytes old n few len =
    let all : min (length bytes / 4) (length old) ≡ n = omega arith in
    ap (λ (k : ℕ). take n (elements_of k bytes ++ drop k old)) all ∙ take_at (elements_of n bytes) _ n (length_elements n bytes)

counted_length : (bytes old : List ℕ) (n : ℕ) → n ≤ length old → length (counted bytes old n) ≡ n
unfolding counted common
counted_length bytes old n few =
    let k = min (length bytes / 4) (length old) in
    let small = min-le_right (length bytes / 4) (length old) in
    length-take-le n _ (omega (arith, length-append (elements_of k bytes) (drop k old), length_elements k bytes, length-drop k old))

-- the test of the lengths, where a buffer of k elements has the length size k
abbrev lengths : (ℕ → ℕ) → ℕ → ℕ → ℕ → ℕ → ℕ → ℕ → Bool
lengths size rows inner columns a b out =
    differs a (size (rows * inner)) || differs b (size (inner * columns)) || differs out (size (rows * columns))

right_lengths : (size : ℕ → ℕ) (rows inner columns a b out : ℕ) → lengths size rows inner columns a b out ≡ false
    → (a ≡ size (rows * inner)) × (b ≡ size (inner * columns)) × (out ≡ size (rows * columns))
right_lengths size rows inner columns a b out e =
    let each = or_all (differs a (size (rows * inner))) (differs b (size (inner * columns))) (differs out (size (rows * columns))) e in
    (equal _ _ each.0, equal _ _ each.1, equal _ _ each.2)

-- two shares as bytes, the output, and the counts of the elements of all three
module _ (rows inner columns : ℕ) (a b out : List ℕ) (na nb nc : ℕ)
    (ca : na ≡ whole_elements (length a)) (cb : nb ≡ whole_elements (length b)) (cc : nc ≡ whole_elements (length out)) where
  module _ (size : sizes_outside rows inner columns ≡ false) (block : over_block rows inner columns ≡ false) where
    same_lengths : lengths (λ k. k) rows inner columns na nb nc ≡ lengths (λ k. 4 * k) rows inner columns (length a) (length b) (length out)
    unfolding sizes_outside
    same_lengths =
        let s = within_all 16384 rows inner columns size in
        let f = blocks_fit rows inner columns block in
        rw (
          ca,
          cb,
          cc,
          exact (length a) (rows * inner) (omega (arith, mul-le-mul s.0.low s.1.low)) f.0,
          exact (length b) (inner * columns) (omega (arith, mul-le-mul s.1.low s.2.low)) f.1,
          exact (length out) (rows * columns) (omega (arith, mul-le-mul s.0.low s.2.low)) f.2,
        )

    module _ (len : lengths (λ k. 4 * k) rows inner columns (length a) (length b) (length out) ≡ false) where
      -- how many elements the buffers hold, and how many bytes
      whole : (na ≡ rows * inner) × (nb ≡ inner * columns) × (nc ≡ rows * columns)
      whole = right_lengths (λ k. k) rows inner columns na nb nc (same_lengths ∙ len)

      byte_lengths : (length a ≡ 4 * (rows * inner)) × (length b ≡ 4 * (inner * columns)) × (length out ≡ 4 * (rows * columns))
      byte_lengths = right_lengths (λ k. 4 * k) rows inner columns (length a) (length b) (length out) len

      module _ (olda oldb : List ℕ) (sa : na ≤ length olda) (sb : nb ≤ length oldb) where
        left_exact : counted a olda na ≡ elements_of (rows * inner) a
        left_exact =
            let w = whole in
            let l = byte_lengths in
            counted_exact a olda na sa (omega arith) ∙ ap (λ (k : ℕ). elements_of k a) w.0

        right_exact : counted b oldb nb ≡ elements_of (inner * columns) b
        right_exact =
            let w = whole in
            let l = byte_lengths in
            counted_exact b oldb nb sb (omega arith) ∙ ap (λ (k : ℕ). elements_of k b) w.1

  -- the lists that the elements are read into, and the block
  module _ (n : ℕ) (olda oldb block : List ℕ) (sa : na ≤ length olda) (sb : nb ≤ length oldb) (sc : nc ≤ length block) where
    room_is : length (take nc block) ≡ nc
    room_is = length-take-le nc block sc

    same_number : first (product_tests n rows inner columns (counted a olda na) (counted b oldb nb) (length (take nc block)))
        ≡ first (host_tests n rows inner columns a b (length out))
    unfolding product_tests host_tests
    same_number =
        same_first _ _ _ _ _ _ _ 1 2 6 13 14
        (λ size over. rw (counted_length a olda na sa, counted_length b oldb nb sb, room_is) (same_lengths size over))
        (λ t size over len. rw (left_exact size over len olda oldb sa sb, right_exact size over len olda oldb sa sb))

    -- the elements that were read, and what the product returned
    module _ (left right : List ℕ) (is-left : left ≡ elements_of (common a olda) a ++ drop (common a olda) olda)
        (is_right : right ≡ elements_of (common b oldb) b ++ drop (common b oldb) oldb) where
      tests_are : first (product_tests n rows inner columns (take na left) (take nb right) (length (take nc block)))
          ≡ first (host_tests n rows inner columns a b (length out))
      unfolding counted
      tests_are =
          ap₂ (λ (l m : List ℕ). first (product_tests n rows inner columns (take na l) (take nb m) (length (take nc block)))) is-left is_right
          ∙ same_number

      pub outcome_is : {A : Type 0} (value : A) → answered (product_tests n rows inner columns (take na left) (take nb right) (length (take nc block))) value
          ≡ answered (host_tests n rows inner columns a b (length out)) value
      outcome_is value = answered_same _ _ value tests_are

      module _ (clear-product : first (product_tests n rows inner columns (take na left) (take nb right) (length (take nc block))) ≡ 0) where
        clear : first (host_tests n rows inner columns a b (length out)) ≡ 0
        clear = sym tests_are ∙ clear-product

        size : sizes_outside rows inner columns ≡ false
        unfolding host_tests
        size = (first_clear _ 1 _ (first_clear _ 0 _ clear).1).0

        over : over_block rows inner columns ≡ false
        unfolding host_tests
        over = (first_clear _ 5 _ (first_clear _ 1 _ (first_clear _ 0 _ clear).1).1).0

        len : lengths (λ k. 4 * k) rows inner columns (length a) (length b) (length out) ≡ false
        unfolding host_tests
        len = (first_clear _ 12 _ (first_clear _ 5 _ (first_clear _ 1 _ (first_clear _ 0 _ clear).1).1).1).0

        product_is : product_after n rows inner columns (take na left) (take nb right) (take nc block)
            ≡ product_of (modulus n) rows inner columns (elements_of (rows * inner) a) (elements_of (inner * columns) b)
        unfolding product_after counted
        product_is =
            unless_done _ _ (take nc block) clear-product
            ∙ ap₂ (λ (l m : List ℕ). product_of (modulus n) rows inner columns (take na l) (take nb m)) is-left is_right
            ∙ ap₂ (product_of (modulus n) rows inner columns) (left_exact size over len olda oldb sa sb) (right_exact size over len olda oldb sa sb)

        -- the block after the product, and the output after its elements were written
        pub done : (made after : List ℕ) → length made ≡ length (take nc block)
            → made ≡ product_after n rows inner columns (take na left) (take nb right) (take nc block)
            → after ≡ bytes_of (take (common out (take nc (made ++ drop nc block))) (take nc (made ++ drop nc block)))
            ++ drop (common out (take nc (made ++ drop nc block)) * 4) out
            → after ≡ host_after n rows inner columns a b out
        unfolding host_after host_product
        done made after same is e =
            let w = whole size over len in
            let l = byte_lengths size over len in
            let front : take nc (made ++ drop nc block) ≡ made = take_at made _ nc (same ∙ room_is) in
            let fits : length out ≡ 4 * length made = omega (arith, room_is) in
            e
            ∙ ap (λ (xs : List ℕ). bytes_of (take (common out xs) xs) ++ drop (common out xs * 4) out) front
            ∙ written_exact out made fits
            ∙ ap bytes_of (is ∙ product_is)
            ∙ sym (unless_done _ _ out clear)
