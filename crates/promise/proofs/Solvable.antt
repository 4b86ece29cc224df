-- Masks that give any values at the hosts of a group.
--
--   Solvable q n count w   any values at n hosts, modulo q, come from some masks: w k y is the weight of mask y at host k
--   solvable_powers        so it is where the masks' exponents follow one another, at no more hosts than there are masks
use mathlib.Core.Path.{◌≡◌, sym, ap, ◌∙◌}
use mathlib.Core.Logic.{⊎_elim}
use mathlib.Core.List.{List}
use Prim.Native.Nat.{ℕ, zero, suc, ◌+◌, ◌*◌, ◌^◌, ◌<◌, ◌≤◌}
use native.Mathlib.Nat.{mod-lt, pow-zero, pow-suc}
use native.Mathlib.Omega.{arith}
use lib.ListN.{length, get_or, get_or-eq_default}
use lib.Pow.{pow-add}
use Rattle.algebra.specs.Lists.{tab, AllBelow, Distinct}
use Rattle.algebra.specs.Sums.{sum}
use Rattle.algebra.specs.Modular.{⟨◌⟩◌≈◌, Prime, inverse}
use Rattle.algebra.specs.Polynomials.{ev, coefficient}
use Rattle.algebra.proofs.Orders.{le_or_lt}
use Rattle.algebra.proofs.Lists.{length_tab, get_or_tab, below_anywhere, below_tab}
use Rattle.algebra.proofs.Modular.{≈_trans, ≈_of_eq, ≈_by, ≈_scale, ≈_exact}
use Rattle.algebra.proofs.Inverses.{inverse_right, no_zero_divisor}
use Rattle.algebra.proofs.Sums.{sum_cong, sum_mul}
use Rattle.algebra.proofs.Polynomials.{ev_tab, ev_cong}
use Rattle.algebra.proofs.Interpolation.{interpolates}

pub record Solvable (q n count : ℕ) (w : ℕ → ℕ → ℕ) : Type 0 where
  pub masks : (ℕ → ℕ) → ℕ → ℕ
  pub below : (v : ℕ → ℕ) (y : ℕ) → masks v y < q
  pub gives : (v : ℕ → ℕ) (k : ℕ) → k < n → ⟨ q ⟩ sum count (λ y. masks v y * w k y) ≈ v k

-- the value of a polynomial as a sum over more places than it has coefficients
ev_sum : {q : ℕ} (cs : List ℕ) (n x : ℕ) → length cs ≤ n → ⟨ q ⟩ sum n (λ y. get_or cs y 0 * x ^ y) ≈ ev cs x
ev_sum {q} cs n x short = ≈_trans (≈_of_eq (sym (ev_tab (λ y. get_or cs y 0) n x))) (ev_cong (tab (λ y. get_or cs y 0) n) cs x (λ e. ≈_of_eq (same e)))
  where
    same : (e : ℕ) → get_or (tab (λ y. get_or cs y 0) n) e 0 ≡ get_or cs e 0
    same e =
        ⊎_elim
        (λ (over : n ≤ e).
        get_or-eq_default (tab (λ y. get_or cs y 0) n) 0 (omega (arith, length_tab (λ y. get_or cs y 0) n))
        ∙ sym (get_or-eq_default cs 0 (omega arith)))
        (λ (l : e < n). get_or_tab (λ y. get_or cs y 0) n e 0 l)
        (le_or_lt n e)

module _ {q : ℕ} (prime : Prime q) where
  -- a power of a number that is not 0 is not 0
  power_nonzero : (x e : ℕ) → 0 < x → x < q → ⟨ q ⟩ x ^ e ≈ 0 → ⊥
  power_nonzero x zero pos below h =
      let one : ◌≡◌ {A = ℕ} 1 0 = sym (pow-zero x) ∙ ≈_exact (omega (arith, pow-zero x, prime.above_one)) (omega arith) h in
      omega arith
  power_nonzero x (suc e) pos below h =
      let one : ⟨ q ⟩ x ≈ 0 = no_zero_divisor prime (x ^ e) x (power_nonzero x e pos below) (≈_trans (≈_of_eq (sym (pow-suc x e))) h) in
      let none : x ≡ 0 = ≈_exact below (omega arith) one in
      omega arith

  module _ (xs : List ℕ) (below : AllBelow q xs) (pos : (k : ℕ) → k < length xs → 0 < get_or xs k 0) (distinct : Distinct xs)
      (count : ℕ) (short : length xs ≤ count) (exponent : ℕ → ℕ) (base : ℕ) (follow : (y : ℕ) → exponent y ≡ base + y) where
    -- what the polynomial of the masks has to be at each point, once the base is taken out
    quotients : (ℕ → ℕ) → List ℕ
    quotients v = tab (λ k. v k * inverse q (get_or xs k 0 ^ base)) (length xs)

    -- Lagrange's polynomial through these: the masks, the others being 0
    solution : (ℕ → ℕ) → List ℕ
    solution v = tab (coefficient q xs (quotients v)) (length xs)

    length_solution : (v : ℕ → ℕ) → length (solution v) ≡ length xs
    unfolding solution
    length_solution v = length_tab (coefficient q xs (quotients v)) (length xs)

    solution_below : (v : ℕ → ℕ) (y : ℕ) → get_or (solution v) y 0 < q
    unfolding solution coefficient
    solution_below v y =
        let low : 0 < q = omega (arith, prime.above_one) in
        below_anywhere q (solution v) low (below_tab q (coefficient q xs (quotients v)) (length xs) (λ e. mod-lt _ low)) y

    solution_at : (v : ℕ → ℕ) (k : ℕ) → k < length xs → ⟨ q ⟩ ev (solution v) (get_or xs k 0) ≈ v k * inverse q (get_or xs k 0 ^ base)
    unfolding solution quotients
    solution_at v k h =
        ≈_trans (interpolates prime xs (quotients v) below distinct k h)
        (≈_of_eq (get_or_tab (λ k. v k * inverse q (get_or xs k 0 ^ base)) (length xs) k 0 h))

    -- the base taken out of the masks' sum
    base_out : (ds : List ℕ) (x : ℕ) → sum count (λ y. get_or ds y 0 * x ^ exponent y) ≡ x ^ base * sum count (λ y. get_or ds y 0 * x ^ y)
    base_out ds x =
        sum_cong count (λ y. get_or ds y 0 * x ^ exponent y) (λ y. x ^ base * (get_or ds y 0 * x ^ y))
        (λ y h. omega (arith, ap (λ (k : ℕ). get_or ds y 0 * k) (ap (λ (k : ℕ). x ^ k) (follow y) ∙ pow-add x base y)))
        ∙ sum_mul count (x ^ base) (λ y. get_or ds y 0 * x ^ y)

    solution_gives : (v : ℕ → ℕ) (k : ℕ) → k < length xs → ⟨ q ⟩ sum count (λ y. get_or (solution v) y 0 * get_or xs k 0 ^ exponent y) ≈ v k
    solution_gives v k h =
        let x : ℕ = get_or xs k 0 in
        let unit : ⟨ q ⟩ x ^ base * inverse q (x ^ base) ≈ 1 = inverse_right prime (x ^ base) (power_nonzero x base (pos k h) (below k h)) in
        let few : length (solution v) ≤ count = omega (arith, length_solution v) in
        ≈_trans (≈_of_eq (base_out (solution v) x))
        (≈_trans (≈_scale (x ^ base) (≈_trans (ev_sum (solution v) count x few) (solution_at v k h))) (≈_by (≈_scale (v k) unit) (omega arith)))

    pub solvable_powers : Solvable q (length xs) count (λ k y. get_or xs k 0 ^ exponent y)
    solvable_powers = record { masks = λ v y. get_or (solution v) y 0; below = solution_below; gives = solution_gives }
