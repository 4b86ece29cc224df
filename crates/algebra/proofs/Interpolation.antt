-- Interpolation: Lagrange's polynomial exists, is the only one, and so gives coefficients back.
--
--   basis_own basis_other    the basis polynomial of x is ≈ 1 at x, and ≈ 0 at each other point
--   interpolates             the polynomial with the coefficients of `coefficient` takes the values ys at xs
--   recover                  the coefficients of a polynomial, from its values at as many points
use mathlib.Core.Path.{◌≡◌, refl, sym, ap, ◌∙◌}
use mathlib.Core.Bool.{Bool, true, false, cond}
use mathlib.Core.Logic.{⊎_elim}
use mathlib.Core.List.{List, [], ◌∷◌}
use Prim.Native.Nat.{ℕ, zero, suc, ◌+◌, ◌-◌, ◌*◌, ◌%◌, ◌<◌, ◌≤◌}
use native.Mathlib.Nat.{not-suc-le-zero}
use native.Mathlib.Omega.{arith}
use lib.Dec.{eqb}
use lib.ListN.{length, get_or, get_or-eq_default}
use borrow.Author.Tests.{eqb-true, eqb-false}
use Rattle.algebra.specs.Lists.{tab, AllBelow, Distinct}
use Rattle.algebra.specs.Sums.{sum}
use Rattle.algebra.specs.Modular.{⟨◌⟩◌≈◌, Prime, inverse}
use Rattle.algebra.specs.Polynomials.{ev, scale, add, add_root, basis, coefficient}
use Rattle.algebra.proofs.Orders.{le_or_lt}
use Rattle.algebra.proofs.Lists.{length_tab, get_or_tab}
use Rattle.algebra.proofs.Modular.{≈_sym, ≈_trans, ≈_of_eq, ≈_by, ≈_mod, ≈_scale, ≈_mul, ≈_multiple, ≈_exact}
use Rattle.algebra.proofs.Inverses.{inverse_right}
use Rattle.algebra.proofs.Sums.{sum_cong, sum_single}
use Rattle.algebra.proofs.Polynomials.{ev_cong, ev_scale, ev_add, ev_add_root, get_or_scale, get_or_add, length_scale, length_add, length_add_root, Apart, same_values}

-- ---- Lagrange's basis

-- one factor of the basis polynomial: (X - y) / (x - y) times rest
factor : ℕ → ℕ → ℕ → List ℕ → List ℕ
factor q x y rest = scale (inverse q (x + (q - y))) (add_root (q - y) rest)

factor_ev : (q x y : ℕ) (rest : List ℕ) (z : ℕ) → ev (factor q x y rest) z ≡ inverse q (x + (q - y)) * ((z + (q - y)) * ev rest z)
unfolding factor
factor_ev q x y rest z =
    ev_scale (inverse q (x + (q - y))) (add_root (q - y) rest) z ∙ ap (λ (k : ℕ). inverse q (x + (q - y)) * k) (ev_add_root (q - y) rest z)

module _ {q : ℕ} (prime : Prime q) where
  -- x - y is no multiple of q where x and y differ and are below q
  nonzero : (x y : ℕ) → x < q → y < q → (x ≡ y → ⊥) → ⟨ q ⟩ x + (q - y) ≈ 0 → ⊥
  nonzero x y hx hy ne h = ne (≈_exact hx hy (≈_by (≈_trans h (≈_sym (≈_multiple 1))) (omega arith)))

  own : (x y : ℕ) (rest : List ℕ) (b : Bool) → eqb x y ≡ b → x < q → y < q → ⟨ q ⟩ ev rest x ≈ 1 → ⟨ q ⟩ ev (cond b rest (factor q x y rest)) x ≈ 1
  own x y rest true e hx hy h = h
  own x y rest false e hx hy h =
      let d : ℕ = x + (q - y) in
      let i : ℕ = inverse q d in
      let unit : ⟨ q ⟩ d * i ≈ 1 = inverse_right prime d (nonzero x y hx hy (eqb-false x y e)) in
      ≈_trans (≈_of_eq (factor_ev q x y rest x)) (≈_by {c = (d * i) * ev rest x} {d = 1 * 1} (≈_mul unit h) (omega arith))

  pub basis_own : (x : ℕ) (ys : List ℕ) → x < q → AllBelow q ys → ⟨ q ⟩ ev (basis q x ys) x ≈ 1
  unfolding basis ev factor
  basis_own x [] hx hys = ≈_of_eq (omega arith)
  basis_own x (y ∷ ys) hx hys =
      own x y (basis q x ys) (eqb x y) refl hx (hys 0 (omega arith)) (basis_own x ys hx (λ i h. hys (suc i) (omega arith)))

  other : (x y z : ℕ) (rest : List ℕ) (b : Bool) → ⟨ q ⟩ ev rest z ≈ 0 → ⟨ q ⟩ ev (cond b rest (factor q x y rest)) z ≈ 0
  other x y z rest true h = h
  other x y z rest false h =
      let k : ℕ = inverse q (x + (q - y)) * (z + (q - y)) in
      ≈_trans (≈_of_eq (factor_ev q x y rest z)) (≈_by (≈_scale k h) (omega arith))

  -- the factor of z itself vanishes at z
  vanish : (x z : ℕ) (rest : List ℕ) (b : Bool) → eqb x z ≡ b → z < q → (x ≡ z → ⊥) → ⟨ q ⟩ ev (cond b rest (factor q x z rest)) z ≈ 0
  vanish x z rest true e hz ne = absurd (ne (eqb-true x z e))
  vanish x z rest false e hz ne =
      let k : ℕ = inverse q (x + (q - z)) * ev rest z in
      let whole : z + (q - z) ≡ q = omega arith in
      ≈_trans (≈_of_eq (factor_ev q x z rest z))
      (≈_by (≈_multiple {q = q} k) (omega (arith, ap (λ (w : ℕ). inverse q (x + (q - z)) * (w * ev rest z)) whole)))

  pub basis_other : (x : ℕ) (ys : List ℕ) (k : ℕ) → AllBelow q ys → k < length ys → (x ≡ get_or ys k 0 → ⊥) → ⟨ q ⟩ ev (basis q x ys) (get_or ys k 0) ≈ 0
  unfolding basis factor
  basis_other x [] k hys hk ne = absurd (not-suc-le-zero hk)
  basis_other x (y ∷ ys) zero hys hk ne = vanish x y (basis q x ys) (eqb x y) refl (hys 0 hk) ne
  basis_other x (y ∷ ys) (suc k) hys hk ne =
      other x y (get_or ys k 0) (basis q x ys) (eqb x y) (basis_other x ys k (λ i h. hys (suc i) (omega arith)) (omega arith) ne)

length_factor : (q x y : ℕ) (rest : List ℕ) (n : ℕ) → length rest ≤ n → length (factor q x y rest) ≤ suc n
unfolding factor
length_factor q x y rest n h =
    omega (arith, length_scale (inverse q (x + (q - y))) (add_root (q - y) rest), length_add_root (q - y) rest)

-- each point other than x adds one to the degree
length_pick : (q x y : ℕ) (rest : List ℕ) (b : Bool) (n : ℕ) → length rest ≤ n → length (cond b rest (factor q x y rest)) ≤ suc n
length_pick q x y rest true n h = omega arith
length_pick q x y rest false n h = length_factor q x y rest n h

length_skip : (q x y : ℕ) (rest : List ℕ) (b : Bool) (n : ℕ) → eqb x y ≡ b → x ≡ y → length rest ≤ n → length (cond b rest (factor q x y rest)) ≤ n
length_skip q x y rest true n e same h = h
length_skip q x y rest false n e same h = absurd (eqb-false x y e same)

length_basis : (q x : ℕ) (ys : List ℕ) → length (basis q x ys) ≤ suc (length ys)
unfolding basis factor
length_basis q x [] = omega arith
length_basis q x (y ∷ ys) = length_pick q x y (basis q x ys) (eqb x y) (suc (length ys)) (length_basis q x ys)

pub length_basis_own : (q x : ℕ) (ys : List ℕ) (k : ℕ) → k < length ys → x ≡ get_or ys k 0 → length (basis q x ys) ≤ length ys
unfolding basis factor
length_basis_own q x [] k hk e = absurd (not-suc-le-zero hk)
length_basis_own q x (y ∷ ys) zero hk e = length_skip q x y (basis q x ys) (eqb x y) (suc (length ys)) refl e (length_basis q x ys)
length_basis_own q x (y ∷ ys) (suc k) hk e =
    length_pick q x y (basis q x ys) (eqb x y) (length ys) (length_basis_own q x ys k (omega arith) e)

-- ---- the interpolating polynomial

-- the sum of n polynomials
total : (ℕ → List ℕ) → ℕ → List ℕ
total f zero = []
total f (suc n) = add (total f n) (f n)

total_ev : (f : ℕ → List ℕ) (n x : ℕ) → ev (total f n) x ≡ sum n (λ i. ev (f i) x)
unfolding total sum ev
total_ev f zero x = refl
total_ev f (suc n) x = ev_add (total f n) (f n) x ∙ ap (λ (k : ℕ). k + ev (f n) x) (total_ev f n x)

total_get_or : (f : ℕ → List ℕ) (n e : ℕ) → get_or (total f n) e 0 ≡ sum n (λ i. get_or (f i) e 0)
unfolding total sum
total_get_or f zero e = refl
total_get_or f (suc n) e = get_or_add (total f n) (f n) e ∙ ap (λ (k : ℕ). k + get_or (f n) e 0) (total_get_or f n e)

total_length : (f : ℕ → List ℕ) (n w : ℕ) → ((i : ℕ) → i < n → length (f i) ≤ w) → length (total f n) ≤ w
unfolding total
total_length f zero w h = omega arith
total_length f (suc n) w h = length_add (total f n) (f n) w (total_length f n w (λ i l. h i (omega arith))) (h n (omega arith))

module _ {q : ℕ} (prime : Prime q) (xs ys : List ℕ) (below : AllBelow q xs) (distinct : Distinct xs) where
  -- y times the basis polynomial of x, for the pair at i
  term : ℕ → List ℕ
  term i = scale (get_or ys i 0) (basis q (get_or xs i 0) xs)

  through : List ℕ
  through = total term (length xs)

  through_length : length through ≤ length xs
  unfolding through term
  through_length =
      total_length term (length xs) (length xs)
      (λ i h. omega (arith, length_scale (get_or ys i 0) (basis q (get_or xs i 0) xs), length_basis_own q (get_or xs i 0) xs i h refl))

  term_own : (k : ℕ) → k < length xs → ⟨ q ⟩ ev (term k) (get_or xs k 0) ≈ get_or ys k 0
  unfolding term
  term_own k h =
      ≈_trans (≈_of_eq (ev_scale (get_or ys k 0) (basis q (get_or xs k 0) xs) (get_or xs k 0)))
      (≈_by (≈_scale (get_or ys k 0) (basis_own prime (get_or xs k 0) xs (below k h) below)) (omega arith))

  term_other : (i k : ℕ) → i < length xs → k < length xs → (i ≡ k → ⊥) → ⟨ q ⟩ ev (term i) (get_or xs k 0) ≈ 0
  unfolding term
  term_other i k hi hk ne =
      ≈_trans (≈_of_eq (ev_scale (get_or ys i 0) (basis q (get_or xs i 0) xs) (get_or xs k 0)))
      (≈_by (≈_scale (get_or ys i 0) (basis_other prime (get_or xs i 0) xs k below hk (λ e. ne (distinct i k hi hk e)))) (omega arith))

  through_at : (k : ℕ) → k < length xs → ⟨ q ⟩ ev through (get_or xs k 0) ≈ get_or ys k 0
  unfolding through
  through_at k h =
      let x : ℕ = get_or xs k 0 in
      ≈_trans (≈_of_eq (total_ev term (length xs) x))
      (≈_trans (sum_single (length xs) k (λ i. ev (term i) x) h (λ i hi ne. term_other i k hi h ne)) (term_own k h))

  apart : Apart q xs
  apart i j hi hj e = distinct i j hi hj (≈_exact (below i hi) (below j hj) e)

  through_coefficient : (e : ℕ) → coefficient q xs ys e ≡ get_or through e 0 % q
  unfolding coefficient through term
  through_coefficient e =
      ap (λ (k : ℕ). k % q)
      (sym (total_get_or term (length xs) e
      ∙ sum_cong (length xs) (λ i. get_or (term i) e 0) (λ i. get_or ys i 0 * get_or (basis q (get_or xs i 0) xs) e 0)
      (λ i h. get_or_scale (get_or ys i 0) (basis q (get_or xs i 0) xs) e)))

  -- past the last coefficient both are 0
  coefficients : (e : ℕ) → ⟨ q ⟩ get_or (tab (coefficient q xs ys) (length xs)) e 0 ≈ get_or through e 0
  coefficients e = ⊎_elim past within (le_or_lt (length xs) e)
    where
      past : length xs ≤ e → ⟨ q ⟩ get_or (tab (coefficient q xs ys) (length xs)) e 0 ≈ get_or through e 0
      past h =
          let none : get_or (tab (coefficient q xs ys) (length xs)) e 0 ≡ 0 =
          get_or-eq_default (tab (coefficient q xs ys) (length xs)) 0 {n = e} (omega (arith, length_tab (coefficient q xs ys) (length xs))) in
          let none' : get_or through e 0 ≡ 0 = get_or-eq_default through 0 {n = e} (omega (arith, through_length)) in
          ≈_of_eq (none ∙ sym none')

      within : e < length xs → ⟨ q ⟩ get_or (tab (coefficient q xs ys) (length xs)) e 0 ≈ get_or through e 0
      within h = ≈_trans (≈_of_eq (get_or_tab (coefficient q xs ys) (length xs) e 0 h ∙ through_coefficient e)) (≈_mod (get_or through e 0))

  pub interpolates : (k : ℕ) → k < length xs → ⟨ q ⟩ ev (tab (coefficient q xs ys) (length xs)) (get_or xs k 0) ≈ get_or ys k 0
  interpolates k h =
      ≈_trans (ev_cong (tab (coefficient q xs ys) (length xs)) through (get_or xs k 0) coefficients) (through_at k h)

  pub recover : (cs : List ℕ) → length cs ≤ length xs → ((k : ℕ) → k < length xs → ⟨ q ⟩ get_or ys k 0 ≈ ev cs (get_or xs k 0))
      → (e : ℕ) → coefficient q xs ys e ≡ get_or cs e 0 % q
  recover cs short at e =
      through_coefficient e
      ∙ (same_values prime xs through cs through_length short apart (λ i h. ≈_trans (through_at i h) (at i h)) e).same
