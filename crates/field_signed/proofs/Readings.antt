-- Laws of signed reading and its way back, over any q.
--
--   in_pos, in_neg     what the range says of n, and of - (n + 1)
--   pos_in, neg_in     the way back
--   minus              v - q, below 0
--   signed_low         an element up to half of q reads as itself
--   signed_high        and one above, as v - q
--   element_below      the way back gives an element
--   element_signed     an element, read and taken back
--   signed_element     a whole number in range, taken back and read
--   signed_in_range    where q is odd, each element reads as a number in range
use mathlib.Core.Path.{◌≡◌, refl, sym, ap, ◌∙◌}
use mathlib.Core.Bool.{Bool, true, cond, ◌&&◌, and-true}
use mathlib.Core.Logic.{⊎_elim}
use Prim.Native.Nat.{ℕ, zero, suc, ◌-◌, ◌/◌, ◌%◌, ◌<◌, ◌≤◌}
use native.Mathlib.Nat.{not-suc-le-zero}
use native.Mathlib.Omega.{arith}
use lib.Dec.{leb, leb-zero, leb-suc-zero, leb-suc-suc}
use lib.IntN.{ℤ, pos, negsuc, neg_ℤ, ◌-ℤ◌}
use lib.Signed.{le_z}
use borrow.Author.Tests.{lt-ltb, le-leb, lt-leb, leb-true}
use Rattle.algebra.proofs.Orders.{le_or_lt}
use Rattle.field_signed.specs.Signed.{half, signed, in_range, element}

range_pos : (q n : ℕ) → in_range q (pos n) ≡ leb n (half q)
unfolding in_range
range_pos q n = ap (λ (t : Bool). t && leb n (half q)) (low (half q))
  where
    low : (h : ℕ) → le_z (neg_ℤ (pos h)) (pos n) ≡ true
    low zero = leb-zero n
    low (suc h) = refl

range_neg : (q n : ℕ) → in_range q (negsuc n) ≡ leb (suc n) (half q)
unfolding in_range
range_neg q n = and-true (le_z (neg_ℤ (pos (half q))) (negsuc n)) ∙ low (half q)
  where
    low : (h : ℕ) → le_z (neg_ℤ (pos h)) (negsuc n) ≡ leb (suc n) h
    low zero = sym (leb-suc-zero n)
    low (suc h) = sym (leb-suc-suc n h)

pub in_pos : (q n : ℕ) → in_range q (pos n) ≡ true → n ≤ half q
in_pos q n r = leb-true n (half q) (sym (range_pos q n) ∙ r)

pub in_neg : (q n : ℕ) → in_range q (negsuc n) ≡ true → n < half q
in_neg q n r = leb-true (suc n) (half q) (sym (range_neg q n) ∙ r)

pub pos_in : (q n : ℕ) → n ≤ half q → in_range q (pos n) ≡ true
pos_in q n l = range_pos q n ∙ le-leb n (half q) l

pub neg_in : (q n : ℕ) → n < half q → in_range q (negsuc n) ≡ true
neg_in q n l = range_neg q n ∙ le-leb (suc n) (half q) l

pub minus : (v q : ℕ) → v < q → pos v -ℤ pos q ≡ negsuc (q - suc v)
minus v zero l = absurd (not-suc-le-zero l)
minus v (suc p) l = ap (λ (t : Bool). cond t (negsuc (suc p - suc v)) (pos (v - suc p))) (lt-ltb v (suc p) l)

pub signed_low : (q v : ℕ) → v ≤ half q → signed q v ≡ pos v
unfolding signed
signed_low q v l = ap (λ (t : Bool). cond t (pos v) (pos v -ℤ pos q)) (le-leb v (half q) l)

pub signed_high : (q v : ℕ) → half q < v → v < q → signed q v ≡ negsuc (q - suc v)
unfolding signed
signed_high q v h l = ap (λ (t : Bool). cond t (pos v) (pos v -ℤ pos q)) (lt-leb v (half q) h) ∙ minus v q l

pub element_below : (q : ℕ) (z : ℤ) → 0 < q → in_range q z ≡ true → element q z < q
unfolding element half
element_below q (pos n) h r = omega (arith, in_pos q n r)
element_below q (negsuc n) h r = omega arith

pub element_signed : (q v : ℕ) → v < q → element q (signed q v) ≡ v
unfolding element
element_signed q v l =
    ⊎_elim (λ (h : v ≤ half q). ap (element q) (signed_low q v h))
    (λ (h : half q < v). let back : q - suc (q - suc v) ≡ v = omega arith in ap (element q) (signed_high q v h l) ∙ back)
    (le_or_lt v (half q))

pub signed_element : (q : ℕ) (z : ℤ) → in_range q z ≡ true → signed q (element q z) ≡ z
unfolding element half
signed_element q (pos n) r = signed_low q n (in_pos q n r)
signed_element q (negsuc n) r =
    let l : n < (q - 1) / 2 = in_neg q n r in
    let back : q - suc (q - suc n) ≡ n = omega arith in
    signed_high q (q - suc n) (omega arith) (omega arith) ∙ ap negsuc back

pub signed_in_range : (q v : ℕ) → q % 2 ≡ 1 → v < q → in_range q (signed q v) ≡ true
unfolding half
signed_in_range q v odd l =
    ⊎_elim (λ (h : v ≤ half q). ap (in_range q) (signed_low q v h) ∙ pos_in q v h)
    (λ (h : half q < v). ap (in_range q) (signed_high q v h l) ∙ neg_in q (q - suc v) (omega arith))
    (le_or_lt v (half q))
