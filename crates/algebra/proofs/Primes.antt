-- That a number is prime, by a test that is computed.
--
--   clear q k d    none of the 2 ^ k numbers from d on divides q, as a test
--   prime_by       the test over 2 ^ k candidates from 2 on, for a q below 2 ^ k * 2 ^ k
--   depth q top    the least k, up to top, with q below 2 ^ k * 2 ^ k
--   prime_test q   q is prime, by trial division
--   each test xs   every number of the list passes the test
--   each_at        so the number at each of its indices does
--   primes         numbers that are tested here, once for all
--   is_in xs q     q stands in the list, as a test
--   listed_prime   a number of `primes` is prime
use mathlib.Core.Path.{◌≡◌, sym, ap, ◌∙◌, subst}
use mathlib.Core.Bool.{Bool, true, false, cond, not, ◌&&◌, ◌||◌}
use mathlib.Core.List.{List, [], ◌∷◌}
use mathlib.Core.Logic.{⊎_elim}
use Prim.Native.Nat.{ℕ, zero, suc, ◌+◌, ◌*◌, ◌/◌, ◌%◌, ◌^◌, ◌<◌, ◌≤◌}
use native.Mathlib.Nat.{div-add-mod, mul-le-mul, mul-mod_left, pow-suc, lt_of_mul-lt-mul_left, not-suc-le-zero, le_of_suc-le-suc}
use native.Mathlib.Omega.{arith}
use lib.Dec.{T, ltb, eqb, T_not, eqb_refl, ltb→lt, eqb→eq}
use lib.ListN.{length, get_or}
use Rattle.algebra.specs.Modular.{Prime}
use Rattle.algebra.proofs.Orders.{le_or_lt}
use Rattle.algebra.proofs.Tests.{and_left, and_right, either}

unfoldable pub clear : ℕ → ℕ → ℕ → Bool
clear q zero d = not (eqb (q % d) 0)
clear q (suc k) d = clear q k d && clear q k (d + 2 ^ k)

clear_at : (q k d : ℕ) → T (clear q k d) → (e : ℕ) → d ≤ e → e < d + 2 ^ k → q % e ≡ 0 → ⊥
unfolding clear
clear_at q zero d t e low high z =
    let same : e ≡ d = omega arith in
    T_not (eqb (q % d) 0) t (subst (λ (x : ℕ). T (eqb (q % d) x)) (ap (λ (x : ℕ). q % x) (sym same) ∙ z) (eqb_refl (q % d)))
clear_at q (suc k) d t e low high z =
    ⊎_elim (λ h. clear_at q k (d + 2 ^ k) (and_right (clear q k d) (clear q k (d + 2 ^ k)) t) e h (omega (arith, pow-suc 2 k)) z)
    (λ h. clear_at q k d (and_left (clear q k d) (clear q k (d + 2 ^ k)) t) e low h z)
    (le_or_lt (d + 2 ^ k) e)

-- a divisor of q above 2 ^ k has a quotient below it
pub prime_by : (q k : ℕ) → 1 < q → q < 2 ^ k * 2 ^ k → T (clear q k 2) → Prime q
prime_by q k one small t = record { above_one = one; no_divisor = λ d low high z. ⊎_elim (above d low high z) (below d low high z) (le_or_lt (2 ^ k) d) }
  where
    below : (d : ℕ) → 1 < d → d < q → q % d ≡ 0 → d < 2 ^ k → ⊥
    below d low high z h = clear_at q k 2 t d low (omega arith) z

    above : (d : ℕ) → 1 < d → d < q → q % d ≡ 0 → 2 ^ k ≤ d → ⊥
    above d low high z h =
        let e = q / d in
        let whole : d * e ≡ q = omega (arith, div-add-mod q d) in
        let e-low : 1 < e = lt_of_mul-lt-mul_left d (omega arith) in
        let e-small : e < 2 ^ k = ⊎_elim (λ (big : 2 ^ k ≤ e). omega (arith, mul-le-mul h big)) (λ (l : e < 2 ^ k). l) (le_or_lt (2 ^ k) e) in
        clear_at q k 2 t e e-low (omega arith) (ap (λ (x : ℕ). x % e) (sym whole) ∙ mul-mod_left d e)

depth : ℕ → ℕ → ℕ
depth q zero = zero
depth q (suc top) = cond (ltb q (2 ^ top * 2 ^ top)) (depth q top) (suc top)

prime_test : ℕ → Bool
prime_test q = let k = depth q 16 in ltb 1 q && (ltb q (2 ^ k * 2 ^ k) && clear q k 2)

prime_tested : (q : ℕ) → T (prime_test q) → Prime q
unfolding prime_test
prime_tested q t =
    let k = depth q 16 in
    let small = ltb q (2 ^ k * 2 ^ k) in
    let rest = and_right (ltb 1 q) (small && clear q k 2) t in
    prime_by q k (ltb→lt 1 q (and_left (ltb 1 q) (small && clear q k 2) t)) (ltb→lt q (2 ^ k * 2 ^ k) (and_left small (clear q k 2) rest))
    (and_right small (clear q k 2) rest)

-- ---- tests of every number of a list

unfoldable pub each : (ℕ → Bool) → List ℕ → Bool
each test [] = true
each test (x ∷ xs) = test x && each test xs

pub each_at : (test : ℕ → Bool) (xs : List ℕ) → T (each test xs) → (i : ℕ) → i < length xs → T (test (get_or xs i 0))
unfolding each
each_at test [] t i h = absurd (not-suc-le-zero h)
each_at test (x ∷ xs) t zero h = and_left (test x) (each test xs) t
each_at test (x ∷ xs) t (suc i) h = each_at test xs (and_right (test x) (each test xs) t) i (le_of_suc-le-suc h)

-- ---- primes that are tested once for all: the largest takes 2 ^ 16 divisions

unfoldable pub primes : List ℕ
primes = 13 ∷ 257 ∷ 65537 ∷ 2147483647 ∷ []

unfoldable pub is_in : List ℕ → ℕ → Bool
is_in [] q = false
is_in (x ∷ xs) q = eqb q x || is_in xs q

all_prime : T (each prime_test primes)
unfolding each prime_test depth clear primes
all_prime = tt

in_prime : (q : ℕ) (xs : List ℕ) → T (each prime_test xs) → T (is_in xs q) → Prime q
unfolding each is_in
in_prime q [] a t = absurd t
in_prime q (x ∷ xs) a t =
    let found : q ≡ x → Prime q = λ e. subst Prime (sym e) (prime_tested x (and_left (prime_test x) (each prime_test xs) a)) in
    ⊎_elim (λ h. found (eqb→eq q x h)) (λ h. in_prime q xs (and_right (prime_test x) (each prime_test xs) a) h) (either (eqb q x) (is_in xs q) t)

pub listed_prime : (q : ℕ) → T (is_in primes q) → Prime q
listed_prime q t = in_prime q primes all_prime t
