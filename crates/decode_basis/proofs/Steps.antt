-- The loops of products, quotients and scales, a step each.
--
--   residue_below                           a remainder by the prime is below it
--   length_coefficients, get_or_coefficients  the first n coefficients have their number, and their elements
--   one_is                                  zeros with 1 at the front are the coefficients of 1
--   all_passed                              what a loop from the end has passed is all, where nothing is left
--   product_none, product_more              the product of no roots, and of one more
--   after                                   what a quotient has at e
--   after_none, after_more                  past the last coefficient, and one before
--   scale_skip, scale_more                  the scale with x itself more, and with another point more
use mathlib.Core.Path.{◌≡◌, sym, ap, ◌∙◌}
use mathlib.Core.List.{List, [], ◌∷◌, ◌++◌}
use Prim.Native.Nat.{ℕ, zero, suc, ◌+◌, ◌-◌, ◌*◌, ◌%◌, ◌<◌, ◌≤◌}
use native.Mathlib.Nat.{mod-lt, mod-eq_of_lt, zero-mod}
use native.Mathlib.Omega.{arith}
use lib.ListN.{length, get_or, take, drop, set, replicate, length-take, length-set, length-replicate, get_or-replicate, drop_of_length-le}
use lib.Seq.{ext_get_or, get_or-take}
use borrow.Author.Tests.{eq-eqb, ne_eqb}
use Rattle.std.proofs.Common.{get_or-set_same, get_or-set_other}
use Rattle.algebra.specs.Lists.{tab}
use Rattle.algebra.specs.Modular.{⟨◌⟩◌≈◌, inverse}
use Rattle.algebra.specs.Polynomials.{ev, add_root}
use Rattle.algebra.proofs.Lists.{length_tab, get_or_tab}
use Rattle.algebra.proofs.Grids.{tab_cong}
use Rattle.algebra.proofs.Modular.{≈_refl, ≈_trans, ≈_of_eq, ≈_mod, ≈_add, ≈_scale}
use Rattle.algebra.proofs.Division.{get_or_add_root, ev_drop}
use Rattle.field.specs.declared.Modulus.{Modulus}
use Rattle.field.specs.Modulus.{prime}
use Rattle.field.proofs.Moduli.{prime_prime}
use Rattle.decode_basis.specs.Internal.{coefficients, root_product, basis_scale}

pub residue_below : (m : Modulus) (n : ℕ) → n % prime m < prime m
residue_below m n = mod-lt n (omega (arith, (prime_prime m).above_one))

-- ---- products

pub length_coefficients : (q : ℕ) (cs : List ℕ) (n : ℕ) → length (coefficients q cs n) ≡ n
unfolding coefficients
length_coefficients q cs n = length_tab _ n

pub get_or_coefficients : (q : ℕ) (cs : List ℕ) (n e : ℕ) → e < n → get_or (coefficients q cs n) e 0 ≡ get_or cs e 0 % q
unfolding coefficients
get_or_coefficients q cs n e h = get_or_tab _ n e 0 h

pub one_is : (n : ℕ) → set {A = ℕ} (replicate n 0) 0 1 ≡ tab (λ e. get_or (1 ∷ []) e 0) n
one_is n =
    let zeros : List ℕ = replicate n 0 in
    let long : length (set zeros 0 1) ≡ n = length-set zeros 0 1 ∙ length-replicate n 0 in
    ext_get_or 0 (set zeros 0 1) (tab (λ e. get_or (1 ∷ []) e 0) n) (long ∙ sym (length_tab _ n))
    (λ e h. let l : e < n = omega (arith, long) in each e l ∙ sym (get_or_tab _ n e 0 l))
  where
    each : (e : ℕ) → e < n → get_or (set {A = ℕ} (replicate n 0) 0 1) e 0 ≡ get_or (1 ∷ []) e 0
    each zero l = get_or-set_same (replicate n 0) 0 1 0 (omega (arith, length-replicate {A = ℕ} n 0))
    each (suc e) l = get_or-set_other (replicate n 0) 0 (suc e) 1 0 (λ z. omega arith) ∙ get_or-replicate n (suc e) 0 0 l

pub all_passed : (xs rest passed : List ℕ) → xs ≡ rest ++ passed → length rest ≡ 0 → passed ≡ xs
all_passed xs [] passed e none = sym e
all_passed xs (x ∷ rest) passed e none = absurd (omega arith)

module _ (q n : ℕ) where
  pub product_none : 1 < q → tab (λ e. get_or (1 ∷ []) e 0) n ≡ coefficients q (root_product q []) n
  unfolding coefficients root_product
  product_none above = tab_cong _ _ n (λ e l. one e)
    where
      one : (e : ℕ) → get_or (1 ∷ []) e 0 ≡ get_or (1 ∷ []) e 0 % q
      one zero = sym (mod-eq_of_lt above)
      one (suc e) = sym (zero-mod q)

  -- times a root, from the coefficients modulo q
  root : (c : ℕ) (cs ds : List ℕ) → cs ≡ coefficients q ds n → (e : ℕ) → e < n → ⟨ q ⟩ get_or (add_root c cs) e 0 ≈ get_or (add_root c ds) e 0
  root c cs ds is e l =
      ≈_trans (≈_of_eq (get_or_add_root c cs e))
      (≈_trans (≈_add (≈_scale c (same e l)) (before e l)) (≈_of_eq (sym (get_or_add_root c ds e))))
    where
      same : (e : ℕ) → e < n → ⟨ q ⟩ get_or cs e 0 ≈ get_or ds e 0
      same e l = ≈_trans (≈_of_eq (ap (λ (xs : List ℕ). get_or xs e 0) is ∙ get_or_coefficients q ds n e l)) (≈_mod (get_or ds e 0))

      before : (e : ℕ) → e < n → ⟨ q ⟩ get_or (0 ∷ cs) e 0 ≈ get_or (0 ∷ ds) e 0
      before zero l = ≈_refl 0
      before (suc e) l = same e (omega arith)

  pub product_more : (cs ys : List ℕ) (y : ℕ) → cs ≡ coefficients q (root_product q ys) n
      → coefficients q (add_root (q - y % q) cs) (length cs) ≡ coefficients q (root_product q (y ∷ ys)) n
  unfolding coefficients root_product
  product_more cs ys y is =
      let ds = root_product q ys in
      let c = q - y % q in
      ap (coefficients q (add_root c cs)) (ap length is ∙ length_coefficients q ds n)
      ∙ tab_cong _ _ n (λ e l. (root c cs ds is e l).same)

-- ---- quotients

unfoldable pub after : ℕ → ℕ → List ℕ → ℕ → ℕ → ℕ
after q x cs n e = ev (drop (suc e) (take (suc n) cs)) x % q

module _ (q x : ℕ) (cs : List ℕ) (n : ℕ) where
  pub after_none : 0 ≡ after q x cs n n
  unfolding after ev
  after_none =
      let none : drop (suc n) (take (suc n) cs) ≡ [] = drop_of_length-le (take (suc n) cs) {i = suc n} (omega (arith, length-take (suc n) cs)) in
      rw none (sym (zero-mod q))

  pub after_more : (value e : ℕ) → 0 < e → e ≤ n → value ≡ after q x cs n e → (get_or cs e 0 + x * value) % q ≡ after q x cs n (e - 1)
  unfolding after
  after_more value e pos h is =
      let top = take (suc n) cs in
      let v = ev (drop (suc e) top) x in
      let next : suc (e - 1) ≡ e = omega arith in
      let here : get_or top e 0 ≡ get_or cs e 0 = get_or-take (suc n) cs e 0 (omega arith) in
      let whole : ev (drop (suc (e - 1)) top) x ≡ get_or cs e 0 + x * v
      = ap (λ (k : ℕ). ev (drop k top) x) next ∙ ev_drop top e x ∙ ap (λ (c : ℕ). c + x * v) here in
      (≈_trans (≈_add (≈_refl (get_or cs e 0)) (≈_scale x (≈_trans (≈_of_eq is) (≈_mod v)))) (≈_of_eq (sym whole))).same

-- ---- scales

module _ (q x y : ℕ) (ys : List ℕ) where
  pub scale_skip : x % q ≡ y % q → basis_scale q x ys ≡ basis_scale q x (y ∷ ys)
  unfolding basis_scale
  scale_skip e = rw (eq-eqb (x % q) (y % q) e)

  pub scale_more : (x % q ≡ y % q → ⊥) → inverse q (x % q + (q - y % q)) * basis_scale q x ys % q ≡ basis_scale q x (y ∷ ys)
  unfolding basis_scale
  scale_more ne = rw (ne_eqb (x % q) (y % q) ne)
