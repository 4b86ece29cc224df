-- Signed words of 64 bits that hold elements and their readings.
--
--   word              an unsigned word of 32 bits, as a signed one
--   difference        v - q of two such words, where v is below q
--   negative          - h of such a word
--   difference_fits   what the difference of two such words fits
--   negative_fits     or of 0 and a word
--   fitting           these as one set, for `search`
--   too_low           a value that the code's tests find below the range is out of it
--   too_high          and so is one above
--   within            one that passes both tests is in range
--   plain             a value that is not below 0 is its element
--   wrapped           one in range that is below 0 is its element once q is added
--   narrow            a signed word that holds a number below 2 ^ 31 fits an unsigned word of 32 bits
use mathlib.Core.Path.{◌≡◌, refl, sym, ap, ap₂, ◌∙◌, subst}
use mathlib.Core.Bool.{Bool, true, false, not, cond, ◌&&◌, and-false, true≢false}
use mathlib.Core.Logic.{⊎_elim}
use Prim.Native.Nat.{ℕ, zero, suc, ◌+◌, ◌-◌, ◌^◌, ◌<◌, ◌≤◌}
use native.Mathlib.Omega.{arith}
use lib.Dec.{T, leb, ltb, leb-zero}
use lib.IntN.{ℤ, pos, negsuc, neg_ℤ, nat_abs, ◌+ℤ◌, ◌-ℤ◌, +ℤ_idl}
use lib.Signed.{mag, lt_z, le_z, non_neg}
use mir.Syntax.{w32, w64}
use mir.Val.{Fits, SFits, to_z}
use mir.Facts.{to_z_pos, Fits-lit, Fits-sub, Fits-div, Fits-mod}
use borrow.Author.Tests.{lt-ltb, le-ltb, le-leb, lt-leb}
use Rattle.algebra.proofs.Orders.{le_or_lt}
use Rattle.field_signed.specs.Signed.{half, in_range, element}
use Rattle.field_signed.proofs.Readings.{minus, in_neg}

pub word : {n : ℕ} → Fits w32 n → to_z w64 n ≡ pos n
word {n} f = let l : n < 2 ^ 63 = omega (arith, f.fits) in to_z_pos w64 l

pub difference : {v q : ℕ} → Fits w32 v → Fits w32 q → v < q → to_z w64 v -ℤ to_z w64 q ≡ negsuc (q - suc v)
difference {v} {q} fv fq l = ap₂ ◌-ℤ◌ (word fv) (word fq) ∙ minus v q l

pub negative : {h : ℕ} → Fits w32 h → pos 0 -ℤ to_z w64 h ≡ neg_ℤ (pos h)
negative {h} f = ap (λ (z : ℤ). pos 0 -ℤ z) (word f) ∙ +ℤ_idl (neg_ℤ (pos h))

pub difference_fits : {a b : ℕ} → Fits w32 a → Fits w32 b → SFits w64 (to_z w64 a -ℤ to_z w64 b)
difference_fits {a} {b} fa fb =
    subst (SFits w64) (sym (ap₂ ◌-ℤ◌ (word fa) (word fb))) (record { sfits = omega (arith, fa.fits, fb.fits, bound a b) })
  where
    apart : (a b : ℕ) (t : Bool) → mag (cond t (negsuc (b - suc a)) (pos (a - b))) ≤ a + b
    apart a b true = omega arith
    apart a b false = omega arith

    bound : (a b : ℕ) → mag (pos a -ℤ pos b) ≤ a + b
    bound a zero = omega arith
    bound a (suc b) = apart a (suc b) (ltb a (suc b))

pub negative_fits : {h : ℕ} → Fits w32 h → SFits w64 (pos 0 -ℤ to_z w64 h)
negative_fits f = difference_fits {a = 0} (Fits-lit tt) f

pub ruleset fitting = (difference_fits, negative_fits, Fits-sub, Fits-div, Fits-mod)

-- the two orders
leb_not : (a b : ℕ) → leb b a ≡ not (ltb a b)
leb_not a b =
    ⊎_elim (λ (l : b ≤ a). le-leb b a l ∙ sym (ap not (le-ltb a b l))) (λ (l : a < b). lt-leb b a l ∙ sym (ap not (lt-ltb a b l)))
    (le_or_lt b a)

int_le_not : (a b : ℤ) → le_z b a ≡ not (lt_z a b)
int_le_not (pos a) (pos b) = leb_not a b
int_le_not (pos a) (negsuc b) = refl
int_le_not (negsuc a) (pos b) = refl
int_le_not (negsuc a) (negsuc b) = leb_not b a

-- x holds z, and low and high hold the two ends of the range
module _ (q : ℕ) {x low high z : ℤ} (value : x ≡ z) (least : low ≡ neg_ℤ (pos (half q))) (most : high ≡ pos (half q)) where
  range : in_range q z ≡ (not (lt_z x low) && not (lt_z high x))
  unfolding in_range
  range = ap₂ ◌&&◌ (ap₂ le_z (sym least) (sym value) ∙ int_le_not x low) (ap₂ le_z (sym value) (sym most) ∙ int_le_not high x)

  pub too_low : lt_z x low ≡ true → in_range q z ≡ false
  too_low t = range ∙ ap (λ (b : Bool). not b && not (lt_z high x)) t

  pub too_high : lt_z high x ≡ true → in_range q z ≡ false
  too_high t = range ∙ ap (λ (b : Bool). not (lt_z x low) && not b) t ∙ and-false (not (lt_z x low))

  pub within : lt_z x low ≡ false → lt_z high x ≡ false → in_range q z ≡ true
  within t u = range ∙ ap₂ (λ (a b : Bool). not a && not b) t u

pub plain : (q : ℕ) {x z : ℤ} → x ≡ z → le_z (pos 0) x ≡ true → x ≡ pos (element q z)
unfolding element
plain q {x} {z} e t = e ∙ go z (ap (le_z (pos 0)) (sym e) ∙ t)
  where
    go : (z : ℤ) → le_z (pos 0) z ≡ true → z ≡ pos (element q z)
    go (pos n) t = refl
    go (negsuc n) t = absurd (true≢false (sym t))

pub wrapped : (q : ℕ) {x y z : ℤ} → x ≡ z → y ≡ pos q → in_range q z ≡ true → le_z (pos 0) x ≡ false → x +ℤ y ≡ pos (element q z)
unfolding element half
wrapped q {x} {y} {z} e f r t = ap₂ ◌+ℤ◌ e f ∙ go z r (ap (le_z (pos 0)) (sym e) ∙ t)
  where
    go : (z : ℤ) → in_range q z ≡ true → le_z (pos 0) z ≡ false → z +ℤ pos q ≡ pos (element q z)
    go (pos n) r t = absurd (true≢false (sym (leb-zero n) ∙ t))
    go (negsuc n) r t =
        let l : n < half q = in_neg q n r in
        ap (λ (b : Bool). cond b (negsuc (suc n - suc q)) (pos (q - suc n))) (le-ltb q (suc n) (omega arith))

pub narrow : {z : ℤ} {n : ℕ} → z ≡ pos n → n < 2 ^ 31 → T (non_neg z) × Fits w32 (nat_abs z)
narrow {z} {n} e l = subst (λ (y : ℤ). T (non_neg y) × Fits w32 (nat_abs y)) (sym e) (tt, record { fits = omega arith })
