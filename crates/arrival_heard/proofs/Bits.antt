-- The hosts heard, bit by bit.
--
--   bit_of                 the bit at an index below 64, as a shifted 1
--   none_heard             no host is heard in 0
--   not_above, none_above  in a number below 2 ^ n none is heard from index n on
--   with_own, with_other   the bit at an index that was clear is set too, and the others stay
--   with_below             a number that then stays below 2 ^ n
--   ones_size              the count of ones tells how many hosts are heard
--   lowest_within          all the hosts heard are among the first n
--   bits_alike             two numbers in which the same hosts are heard are the same
use mathlib.Core.Path.{◌≡◌, refl, sym, ap, ◌∙◌}
use mathlib.Core.Bool.{Bool, true, false}
use mathlib.Core.Logic.{⊎_elim}
use mathlib.Core.List.{[], ◌∷◌}
use Prim.Native.Nat.{ℕ, zero, suc, ◌+◌, ◌-◌, ◌*◌, ◌/◌, ◌%◌, ◌^◌, ◌<◌, ◌≤◌}
use native.Mathlib.Nat.{div-eq_of_lt, mod-eq_of_lt, add-div_right, add-mul-div_right, div-lt_iff_lt-mul, pow-suc, mod-lt, le_of_suc-le-suc, eq-or-lt_of_le}
use native.Mathlib.Omega.{arith}
use lib.Dec.{eqb}
use lib.ListN.{take, length-append}
use lib.Pow.{pow_pos, pow_mono, pow-lt, pow-add, shr-shr, mod-pow-add}
use lib.Count.{ones, ones_cat}
use borrow.Author.Tests.{eqb-true, eqb-false, eq-eqb, ne_eqb, lt-leb}
use Rattle.algebra.specs.Sets.{members, size}
use Rattle.algebra.proofs.Orders.{le_or_lt}
use Rattle.algebra.proofs.Tests.{by_test}
use Rattle.arrival_heard.specs.Heard.{is_heard, with_host, some_above, lowest}

pub bit_of : (i : ℕ) → i < 64 → 1 * 2 ^ i % 2 ^ 64 ≡ 2 ^ i
bit_of i l =
    let small : 2 ^ i < 2 ^ 64 = pow-lt l in
    let one : 1 * 2 ^ i ≡ 2 ^ i = omega arith in
    rw one (mod-eq_of_lt small)

pub none_above : (h n i : ℕ) → h < 2 ^ n → n ≤ i → some_above i h ≡ false
unfolding some_above
none_above h n i b l = let high : 2 ^ n ≤ 2 ^ i = pow_mono l in lt-leb (2 ^ i) h (omega arith)

pub not_above : (h n i : ℕ) → h < 2 ^ n → n ≤ i → is_heard h i ≡ false
unfolding is_heard
not_above h n i b l =
    let high : 2 ^ n ≤ 2 ^ i = pow_mono l in
    let none : h / 2 ^ i ≡ 0 = div-eq_of_lt (omega arith) in
    ne_eqb (h / 2 ^ i % 2) 1 (λ e. omega arith)

pub none_heard : (i : ℕ) → is_heard 0 i ≡ false
none_heard i = not_above 0 0 i (omega arith) (omega arith)

module _ (h i : ℕ) (clear : is_heard h i ≡ false) where
  even : h / 2 ^ i % 2 ≡ 0
  unfolding is_heard
  even = let ne : h / 2 ^ i % 2 ≡ 1 → ⊥ = eqb-false (h / 2 ^ i % 2) 1 clear in omega arith

  -- the bits from index i on
  from : with_host h i / 2 ^ i ≡ h / 2 ^ i + 1
  unfolding with_host
  from = add-div_right h (pow_pos i)

  pub with_own : is_heard (with_host h i) i ≡ true
  unfolding is_heard
  with_own = eq-eqb (with_host h i / 2 ^ i % 2) 1 (omega (arith, even, from))

  -- the bits above index i are those of h
  above : (j : ℕ) → i < j → with_host h i / 2 ^ j ≡ h / 2 ^ j
  above j l =
      let next : with_host h i / 2 ^ i / 2 ^ 1 ≡ h / 2 ^ i / 2 ^ 1 = omega (arith, even, from) in
      let there : i + 1 + (j - (i + 1)) ≡ j = omega arith in
      sym
      (ap (λ (k : ℕ). h / 2 ^ k) (sym there)
      ∙ sym (shr-shr h (i + 1) (j - (i + 1)))
      ∙ ap (λ (x : ℕ). x / 2 ^ (j - (i + 1))) (sym (shr-shr h i 1) ∙ sym next ∙ shr-shr (with_host h i) i 1)
      ∙ shr-shr (with_host h i) (i + 1) (j - (i + 1))
      ∙ ap (λ (k : ℕ). with_host h i / 2 ^ k) there)

  -- the bit at an index below i is that of h
  below : (j : ℕ) → j < i → with_host h i / 2 ^ j % 2 ≡ h / 2 ^ j % 2
  unfolding with_host
  below j l =
      let there : i ≡ suc (i - j - 1) + j = omega arith in
      let two : 2 ^ i ≡ 2 ^ (i - j - 1) * 2 * 2 ^ j
      = ap (λ (k : ℕ). 2 ^ k) there ∙ pow-add 2 (suc (i - j - 1)) j ∙ ap (λ (x : ℕ). x * 2 ^ j) (pow-suc 2 (i - j - 1)) in
      let moved : (h + 2 ^ i) / 2 ^ j ≡ h / 2 ^ j + 2 ^ (i - j - 1) * 2
      = ap (λ (x : ℕ). (h + x) / 2 ^ j) two ∙ add-mul-div_right h (2 ^ (i - j - 1) * 2) (pow_pos j) in
      omega (arith, moved)

  pub with_other : (j : ℕ) → (i ≡ j → ⊥) → is_heard (with_host h i) j ≡ is_heard h j
  unfolding is_heard
  with_other j ne =
      ap (λ (x : ℕ). eqb x 1)
      (⊎_elim (λ (l : i ≤ j). ap (λ (x : ℕ). x % 2) (above j (omega arith))) (λ (l : j < i). below j l) (le_or_lt i j))

  pub with_below : (n : ℕ) → h < 2 ^ n → i < n → with_host h i < 2 ^ n
  with_below n b l =
      let none : with_host h i / 2 ^ n ≡ 0 = above n l ∙ div-eq_of_lt b in
      let one : with_host h i < 1 * 2 ^ n = (div-lt_iff_lt-mul (pow_pos n)).0 (omega arith) in
      omega arith

-- ---- how many are heard

-- the count of ones of a number of one bit
one_bit : (x : ℕ) → x < 2 → ones x ≡ x
unfolding ones
one_bit zero l = refl
one_bit (suc zero) l = refl
one_bit (suc (suc x)) l = let no : ⊥ = omega arith in absurd no

-- one more number is in a set, or it is not
size_more : (g : ℕ → Bool) (n : ℕ) → g n ≡ true → size g (suc n) ≡ size g n + 1
unfolding size members
size_more g n e = rw e (length-append (members g n) (n ∷ []))

size_skip : (g : ℕ → Bool) (n : ℕ) → g n ≡ false → size g (suc n) ≡ size g n
unfolding size members
size_skip g n e = rw e

size_bit : (h n : ℕ) → size (is_heard h) (suc n) ≡ size (is_heard h) n + h / 2 ^ n % 2
unfolding is_heard
size_bit h n =
    ⊎_elim (λ (t : is_heard h n ≡ true). omega (arith, size_more (is_heard h) n t, eqb-true (h / 2 ^ n % 2) 1 t))
    (λ (f : is_heard h n ≡ false). omega (arith, size_skip (is_heard h) n f, even h n f))
    (by_test (is_heard h n))

-- the ones of the first n indices
ones_first : (h n : ℕ) → ones (h % 2 ^ n) ≡ size (is_heard h) n
unfolding ones size members
ones_first h zero = let none : h % 1 ≡ 0 = omega arith in ap ones none
ones_first h (suc n) =
    let one : 2 ^ (1 + n) ≡ 2 ^ suc n = ap (λ (k : ℕ). 2 ^ k) (let e : 1 + n ≡ suc n = omega arith in e) in
    let bit : h / 2 ^ n % 2 < 2 = omega arith in
    ap (λ (x : ℕ). ones (h % x)) (sym one)
    ∙ ap ones (mod-pow-add h 1 n)
    ∙ ones_cat n (h / 2 ^ n % 2) (h % 2 ^ n) (mod-lt h (pow_pos n))
    ∙ omega (arith, one_bit (h / 2 ^ n % 2) bit, ones_first h n, size_bit h n)

pub ones_size : (h n : ℕ) → h < 2 ^ n → ones h ≡ size (is_heard h) n
ones_size h n b = ap ones (sym (mod-eq_of_lt b)) ∙ ones_first h n

-- ---- the lowest-numbered

module _ (h : ℕ) where
  -- from index n on none is heard
  members_within : (n m : ℕ) → h < 2 ^ n → n ≤ m → members (is_heard h) m ≡ members (is_heard h) n
  unfolding members
  members_within n zero b l = let z : n ≡ 0 = omega arith in rw z
  members_within n (suc m) b l =
      ⊎_elim (λ (e : n ≡ suc m). ap (members (is_heard h)) (sym e))
      (λ (s : n < suc m). rw (not_above h n m b (le_of_suc-le-suc s)) (members_within n m b (le_of_suc-le-suc s)))
      (eq-or-lt_of_le l)

  pub lowest_within : (k n : ℕ) → h < 2 ^ n → n ≤ 64 → lowest k h 64 ≡ lowest k h n
  unfolding lowest
  lowest_within k n b l = ap (take k) (members_within n 64 b l)

-- ---- the bits tell the number

-- the bits from the second on are those of the half
half_bit : (h i : ℕ) → is_heard h (suc i) ≡ is_heard (h / 2) i
unfolding is_heard
half_bit h i =
    let next : 1 + i ≡ suc i = omega arith in
    ap (λ (k : ℕ). eqb (k % 2) 1) (ap (λ (k : ℕ). h / 2 ^ k) (sym next) ∙ sym (shr-shr h 1 i))

low_bit : (h k : ℕ) → is_heard h 0 ≡ is_heard k 0 → h % 2 ≡ k % 2
unfolding is_heard
low_bit h k e =
    ⊎_elim (λ (t : eqb (h / 1 % 2) 1 ≡ true). omega (arith, eqb-true (h / 1 % 2) 1 t, eqb-true (k / 1 % 2) 1 (sym e ∙ t)))
    (λ (f : eqb (h / 1 % 2) 1 ≡ false). omega (arith, even h 0 f, even k 0 (sym e ∙ f)))
    (by_test (eqb (h / 1 % 2) 1))

pub bits_alike : (n h k : ℕ) → h < 2 ^ n → k < 2 ^ n → ((i : ℕ) → is_heard h i ≡ is_heard k i) → h ≡ k
bits_alike zero h k a b same = omega arith
bits_alike (suc n) h k a b same =
    let two : 2 ^ suc n ≡ 2 ^ n * 2 = pow-suc 2 n in
    let rest : h / 2 ≡ k / 2
    = bits_alike n (h / 2) (k / 2) (omega arith) (omega arith) (λ i. sym (half_bit h i) ∙ same (suc i) ∙ half_bit k i) in
    omega (arith, rest, low_bit h k (same 0))
