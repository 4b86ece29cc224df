-- The basis polynomial of a point x is the quotient of the product of all roots by (X - x), times the scale.
--
--   basis_by_division    coefficient by coefficient, modulo q, where there is room for all of them
use mathlib.Core.Path.{◌≡◌, refl, sym, ap, ◌∙◌, subst}
use mathlib.Core.Logic.{⊎_elim}
use mathlib.Core.List.{List, [], ◌∷◌}
use Prim.Native.Nat.{ℕ, zero, suc, ◌+◌, ◌-◌, ◌*◌, ◌%◌, ◌<◌, ◌≤◌}
use native.Mathlib.Nat.{not-suc-le-zero, suc_inj, mod-eq_of_lt, mul-zero}
use native.Mathlib.Omega.{arith}
use lib.ListN.{length, get_or, take, drop, get_or-eq_default}
use lib.Seq.{take_all, get_or-drop}
use borrow.Author.Tests.{eq-eqb, ne_eqb}
use Rattle.algebra.specs.Lists.{tab, AllBelow, Distinct}
use Rattle.algebra.specs.Modular.{⟨◌⟩◌≈◌, inverse}
use Rattle.algebra.specs.Polynomials.{ev, scale, add_root, basis}
use Rattle.algebra.proofs.Orders.{le_or_lt}
use Rattle.algebra.proofs.Lists.{length_tab, get_or_tab, take_tab}
use Rattle.algebra.proofs.Modular.{≈_trans, ≈_of_eq, ≈_by, ≈_mod, ≈_add, ≈_scale, ≈_mul, ≈_refl, ≈_multiple}
use Rattle.algebra.proofs.Polynomials.{ev_scale, ev_cong, get_or_scale, length_add_root}
use Rattle.algebra.proofs.Division.{get_or_add_root, add_root_swap, ev_after}
use Rattle.algebra.proofs.Interpolation.{length_basis_own}
use Rattle.decode_basis.specs.Internal.{coefficients, root_product, quotient, basis_scale}
use Rattle.decode_basis.proofs.Steps.{length_coefficients, get_or_coefficients}

-- s times each coefficient of cs is ≈ that of ds
abbrev Scaled : ℕ → ℕ → List ℕ → List ℕ → Type 0
Scaled q s cs ds = (e : ℕ) → ⟨ q ⟩ s * get_or cs e 0 ≈ get_or ds e 0

module _ {q : ℕ} where
  -- both sides times (X + c)
  scaled_root : (c s : ℕ) (cs ds : List ℕ) → Scaled q s cs ds → Scaled q s (add_root c cs) (add_root c ds)
  scaled_root c s cs ds h e =
      ≈_by (≈_add (≈_scale c (h e)) (before e)) (omega (arith, ap (λ (k : ℕ). s * k) (get_or_add_root c cs e), get_or_add_root c ds e))
    where
      before : (e : ℕ) → ⟨ q ⟩ s * get_or (0 ∷ cs) e 0 ≈ get_or (0 ∷ ds) e 0
      before zero = ≈_of_eq (mul-zero s)
      before (suc e) = h e

  -- and times k
  scaled_more : (k s : ℕ) (cs ds : List ℕ) → Scaled q s cs ds → Scaled q (k * s % q) cs (scale k ds)
  scaled_more k s cs ds h e =
      let x = get_or cs e 0 in
      ≈_trans (≈_mul (≈_mod (k * s)) (≈_refl x))
      (≈_by (≈_scale k (h e)) (omega (arith, get_or_scale k ds e)))

module _ (q x : ℕ) (low : x < q) where
  -- over points that are not x, the scale times the product of the roots is the basis polynomial
  scaled_none : (ys : List ℕ) → AllBelow q ys → ((k : ℕ) → k < length ys → x ≡ get_or ys k 0 → ⊥)
      → Scaled q (basis_scale q x ys) (root_product q ys) (basis q x ys)
  unfolding basis_scale root_product basis
  scaled_none [] below ne = λ e. ≈_of_eq (omega arith)
  scaled_none (y ∷ ys) below ne =
      let s = basis_scale q x ys in
      let all = root_product q ys in
      let rest = basis q x ys in
      rw (mod-eq_of_lt low, mod-eq_of_lt (below 0 (omega arith)), ne_eqb x y (ne 0 (omega arith)))
      (scaled_more (inverse q (x + (q - y))) s (add_root (q - y) all) (add_root (q - y) rest)
      (scaled_root (q - y) s all rest (scaled_none ys (λ i h. below (suc i) (omega arith)) (λ k h. ne (suc k) (omega arith)))))

  -- over points of which one is x, it is the basis polynomial times (X - x)
  scaled_once : (ys : List ℕ) → AllBelow q ys → Distinct ys → (i : ℕ) → i < length ys → x ≡ get_or ys i 0
      → Scaled q (basis_scale q x ys) (root_product q ys) (add_root (q - x) (basis q x ys))
  unfolding basis_scale root_product basis
  scaled_once [] below distinct i h is = absurd (not-suc-le-zero h)
  scaled_once (y ∷ ys) below distinct zero h is =
      let s = basis_scale q x ys in
      let all = root_product q ys in
      let rest = basis q x ys in
      let away : (k : ℕ) → k < length ys → x ≡ get_or ys k 0 → ⊥
      = λ k l e. let z : suc k ≡ 0 = distinct (suc k) 0 (omega arith) (omega arith) (sym e ∙ is) in omega arith in
      let apart = scaled_root (q - x) s all rest (scaled_none ys (λ i h. below (suc i) (omega arith)) away) in
      rw (mod-eq_of_lt low, mod-eq_of_lt (below 0 (omega arith)), eq-eqb x y is)
      (subst (λ (k : ℕ). Scaled q s (add_root (q - k) all) (add_root (q - x) rest)) is apart)
  scaled_once (y ∷ ys) below distinct (suc i) h is =
      let s = basis_scale q x ys in
      let all = root_product q ys in
      let rest = basis q x ys in
      let k = inverse q (x + (q - y)) in
      let ne : x ≡ y → ⊥ = λ e. let z : suc i ≡ 0 = distinct (suc i) 0 (omega arith) (omega arith) (sym is ∙ e) in omega arith in
      let tail : Distinct ys = λ i j hi hj e. suc_inj (distinct (suc i) (suc j) (omega arith) (omega arith) e) in
      let before : Scaled q s all (add_root (q - x) rest) = scaled_once ys (λ i h. below (suc i) (omega arith)) tail i (omega arith) is in
      rw (mod-eq_of_lt low, mod-eq_of_lt (below 0 (omega arith)), ne_eqb x y ne)
      (λ e. ≈_trans (scaled_more k s (add_root (q - y) all) (add_root (q - y) (add_root (q - x) rest)) (scaled_root (q - y) s all (add_root (q - x) rest) before) e)
      (≈_of_eq (sym (add_root_swap (q - x) k (q - y) rest e))))

length_product : (q : ℕ) (ys : List ℕ) → length (root_product q ys) ≤ suc (length ys)
unfolding root_product
length_product q [] = omega arith
length_product q (y ∷ ys) = omega (arith, length_add_root (q - y % q) (root_product q ys), length_product q ys)

-- all coefficients, where there is room for them
all_coefficients : (q : ℕ) (cs : List ℕ) (n : ℕ) → length cs ≤ n → (e : ℕ) → ⟨ q ⟩ get_or (coefficients q cs n) e 0 ≈ get_or cs e 0
all_coefficients q cs n h e =
    ⊎_elim
    (λ (past : n ≤ e).
    ≈_of_eq (get_or-eq_default (coefficients q cs n) 0 {n = e} (omega (arith, length_coefficients q cs n)) ∙ sym (get_or-eq_default cs 0 {n = e} (omega arith))))
    (λ (l : e < n). ≈_trans (≈_of_eq (get_or_coefficients q cs n e l)) (≈_mod (get_or cs e 0)))
    (le_or_lt n e)

-- and so of the first ones, where they are all
first_coefficients : (q : ℕ) (cs : List ℕ) (n k : ℕ) → length cs ≤ n → length cs ≤ k
    → (e : ℕ) → ⟨ q ⟩ get_or (take k (coefficients q cs n)) e 0 ≈ get_or cs e 0
unfolding coefficients
first_coefficients q cs n k h l =
    ⊎_elim (λ (some : k ≤ n). rw (take_tab _ k n some) (all_coefficients q cs k l))
    (λ (all : n < k). rw (take_all k (coefficients q cs n) (omega (arith, length_coefficients q cs n))) (all_coefficients q cs n h))
    (le_or_lt k n)

module _ (q : ℕ) (xs : List ℕ) (below : AllBelow q xs) (distinct : Distinct xs) (i : ℕ) (h : i < length xs) where
  x : ℕ
  x = get_or xs i 0

  -- what stands after e, at x
  divided : (cs : List ℕ) → ((e : ℕ) → ⟨ q ⟩ get_or cs e 0 ≈ get_or (root_product q xs) e 0)
      → (e : ℕ) → ⟨ q ⟩ basis_scale q x xs * ev (drop (suc e) cs) x ≈ get_or (basis q x xs) e 0
  unfolding x
  divided cs same e =
      ≈_trans (≈_of_eq (sym (ev_scale s (drop (suc e) cs) x)))
      (≈_trans (ev_cong (scale s (drop (suc e) cs)) (drop (suc e) whole) x each) (ev_after x (q - x) root (basis q x xs) e))
    where
      s : ℕ
      s = basis_scale q x xs

      whole : List ℕ
      whole = add_root (q - x) (basis q x xs)

      low : x < q
      low = below i h

      root : ⟨ q ⟩ x + (q - x) ≈ 0
      root = ≈_by (≈_multiple {q = q} 1) (omega (arith, low))

      each : (d : ℕ) → ⟨ q ⟩ get_or (scale s (drop (suc e) cs)) d 0 ≈ get_or (drop (suc e) whole) d 0
      each d =
          ≈_trans (≈_of_eq (get_or_scale s (drop (suc e) cs) d ∙ ap (λ (c : ℕ). s * c) (get_or-drop (suc e) cs d 0)))
          (≈_trans (≈_scale s (same (suc e + d)))
          (≈_trans (scaled_once q x low xs below distinct i h refl (suc e + d)) (≈_of_eq (sym (get_or-drop (suc e) whole d 0)))))

  pub basis_by_division : (n m : ℕ) → length xs < n → length xs ≤ m → (e : ℕ)
      → ⟨ q ⟩ basis_scale q (get_or xs i 0) xs * get_or (quotient q (get_or xs i 0) (coefficients q (root_product q xs) n) m) e 0
      ≈ get_or (basis q (get_or xs i 0) xs) e 0
  unfolding quotient x
  basis_by_division n m room wide e =
      let cs = take (suc m) (coefficients q (root_product q xs) n) in
      let f : ℕ → ℕ = λ d. ev (drop (suc d) cs) x % q in
      let s = basis_scale q x xs in
      let size = length_product q xs in
      ⊎_elim
      (λ (past : m ≤ e).
      let none : get_or (tab f m) e 0 ≡ 0 = get_or-eq_default (tab f m) 0 {n = e} (omega (arith, length_tab f m)) in
      let none' : get_or (basis q x xs) e 0 ≡ 0 = get_or-eq_default (basis q x xs) 0 {n = e} (omega (arith, length_basis_own q x xs i h refl)) in
      ≈_of_eq (ap (λ (c : ℕ). s * c) none ∙ mul-zero s ∙ sym none'))
      (λ (l : e < m).
      ≈_trans (≈_scale s (≈_trans (≈_of_eq (get_or_tab f m e 0 l)) (≈_mod (ev (drop (suc e) cs) x))))
      (divided cs (first_coefficients q (root_product q xs) n (suc m) (omega arith) (omega arith)) e))
      (le_or_lt m e)
