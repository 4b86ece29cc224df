-- Laws of polynomials as lists of coefficients.
--
--   ev_scale ev_add ev_add_root       values
--   get_or_scale get_or_add              coefficients
--   length_scale length_add ..       lengths
--   ev_tab                           a value as a sum over coefficients
--   ev_cong                          congruent coefficients give congruent values
--   roots                            n coefficients with n roots that differ modulo q are all ≈ 0
--   same_values                      two lists of n coefficients with the same values at n such points
use mathlib.Core.Path.{◌≡◌, refl, sym, ap, ◌∙◌}
use mathlib.Core.List.{List, [], ◌∷◌, ◌++◌}
use Prim.Native.Nat.{ℕ, zero, suc, ◌+◌, ◌-◌, ◌*◌, ◌^◌, ◌<◌, ◌≤◌}
use native.Mathlib.Nat.{not-suc-le-zero, mul-zero, pow-zero, pow-suc, suc_inj, le_of_suc-le-suc}
use native.Mathlib.Omega.{arith}
use lib.ListN.{length, get_or}
use Rattle.algebra.specs.Lists.{tab}
use Rattle.algebra.specs.Sums.{sum}
use Rattle.algebra.specs.Modular.{⟨◌⟩◌≈◌, Prime}
use Rattle.algebra.specs.Polynomials.{ev, scale, add, add_root}
use Rattle.algebra.proofs.Lists.{length_tab}
use Rattle.algebra.proofs.Modular.{≈_refl, ≈_sym, ≈_add, ≈_trans, ≈_of_eq, ≈_by, ≈_scale, ≈_multiple}
use Rattle.algebra.proofs.Inverses.{cancel_difference}

pub ev_scale : (c : ℕ) (cs : List ℕ) (x : ℕ) → ev (scale c cs) x ≡ c * ev cs x
unfolding ev scale
ev_scale c [] x = sym (mul-zero c)
ev_scale c (d ∷ cs) x = omega (arith, ap (λ (z : ℕ). x * z) (ev_scale c cs x))

pub ev_add : (cs ds : List ℕ) (x : ℕ) → ev (add cs ds) x ≡ ev cs x + ev ds x
unfolding ev add
ev_add [] ds x = omega arith
ev_add (c ∷ cs) [] x = omega arith
ev_add (c ∷ cs) (d ∷ ds) x = omega (arith, ap (λ (z : ℕ). x * z) (ev_add cs ds x))

pub ev_add_root : (c : ℕ) (cs : List ℕ) (x : ℕ) → ev (add_root c cs) x ≡ (x + c) * ev cs x
unfolding ev add_root
ev_add_root c cs x = omega (arith, ev_add (scale c cs) (0 ∷ cs) x, ev_scale c cs x)

pub get_or_scale : (c : ℕ) (cs : List ℕ) (e : ℕ) → get_or (scale c cs) e 0 ≡ c * get_or cs e 0
unfolding scale
get_or_scale c [] e = sym (mul-zero c)
get_or_scale c (d ∷ cs) zero = refl
get_or_scale c (d ∷ cs) (suc e) = get_or_scale c cs e

pub get_or_add : (cs ds : List ℕ) (e : ℕ) → get_or (add cs ds) e 0 ≡ get_or cs e 0 + get_or ds e 0
unfolding add
get_or_add [] ds e = omega arith
get_or_add (c ∷ cs) [] e = omega arith
get_or_add (c ∷ cs) (d ∷ ds) zero = refl
get_or_add (c ∷ cs) (d ∷ ds) (suc e) = get_or_add cs ds e

pub length_scale : (c : ℕ) (cs : List ℕ) → length (scale c cs) ≡ length cs
unfolding scale
length_scale c [] = refl
length_scale c (d ∷ cs) = ap suc (length_scale c cs)

pub length_add : (cs ds : List ℕ) (n : ℕ) → length cs ≤ n → length ds ≤ n → length (add cs ds) ≤ n
unfolding add
length_add [] ds n h k = k
length_add (c ∷ cs) [] n h k = h
length_add (c ∷ cs) (d ∷ ds) zero h k = absurd (not-suc-le-zero h)
length_add (c ∷ cs) (d ∷ ds) (suc n) h k = let ih = length_add cs ds n (le_of_suc-le-suc h) (le_of_suc-le-suc k) in omega arith

pub length_add_root : (c : ℕ) (cs : List ℕ) → length (add_root c cs) ≤ suc (length cs)
unfolding add_root
length_add_root c cs = length_add (scale c cs) (0 ∷ cs) (suc (length cs)) (omega (arith, length_scale c cs)) (omega arith)

ev_append : (cs ds : List ℕ) (x : ℕ) → ev (cs ++ ds) x ≡ ev cs x + x ^ length cs * ev ds x
unfolding ev
ev_append [] ds x = omega (arith, ap (λ (z : ℕ). z * ev ds x) (pow-zero x))
ev_append (c ∷ cs) ds x = omega (arith, ap (λ (z : ℕ). x * z) (ev_append cs ds x), ap (λ (z : ℕ). z * ev ds x) (pow-suc x (length cs)))

pub ev_tab : (f : ℕ → ℕ) (n x : ℕ) → ev (tab f n) x ≡ sum n (λ e. f e * x ^ e)
unfolding ev tab sum
ev_tab f zero x = refl
ev_tab f (suc n) x =
    omega (arith, ev_append (tab f n) (f n ∷ []) x, ev_tab f n x, ap (λ (k : ℕ). x ^ k * f n) (length_tab f n))

-- ---- roots

-- The quotient of c ∷ cs by (X - r): the values at r of cs and of its tails.
quotient : ℕ → List ℕ → List ℕ
quotient r [] = []
quotient r (c ∷ cs) = ev (c ∷ cs) r ∷ quotient r cs

quotient_ev : (r x : ℕ) (cs : List ℕ) → x * ev cs x + r * ev (quotient r cs) x ≡ x * ev (quotient r cs) x + r * ev cs r
unfolding ev quotient
quotient_ev r x [] = refl
quotient_ev r x (c ∷ cs) = omega (arith, ap (λ (z : ℕ). x * z) (quotient_ev r x cs))

length_quotient : (r : ℕ) (cs : List ℕ) → length (quotient r cs) ≡ length cs
unfolding quotient
length_quotient r [] = refl
length_quotient r (c ∷ cs) = ap suc (length_quotient r cs)

-- every coefficient is ≈ 0
abbrev pub Zeros : ℕ → List ℕ → Type 0
Zeros q cs = (e : ℕ) → ⟨ q ⟩ get_or cs e 0 ≈ 0

-- no two elements of xs are congruent
abbrev pub Apart : ℕ → List ℕ → Type 0
Apart q xs = (i j : ℕ) → i < length xs → j < length xs → ⟨ q ⟩ get_or xs i 0 ≈ get_or xs j 0 → i ≡ j

module _ {q : ℕ} where
  quotient_head : (r : ℕ) (cs : List ℕ) → Zeros q (quotient r cs) → ⟨ q ⟩ ev cs r ≈ 0
  unfolding ev quotient
  quotient_head r [] z = ≈_refl 0
  quotient_head r (c ∷ cs) z = z 0

  -- c is what is left of ev (c ∷ cs) r
  constant : (r c : ℕ) (cs : List ℕ) → ⟨ q ⟩ ev (c ∷ cs) r ≈ 0 → ⟨ q ⟩ ev cs r ≈ 0 → ⟨ q ⟩ c ≈ 0
  unfolding ev
  constant r c cs h t = ≈_by (≈_trans h (≈_sym (≈_trans (≈_scale r t) (≈_of_eq (mul-zero r))))) (omega arith)

  quotient_zeros : (r : ℕ) (cs : List ℕ) → Zeros q (quotient r cs) → Zeros q cs
  unfolding quotient
  quotient_zeros r [] z e = z e
  quotient_zeros r (c ∷ cs) z zero = constant r c cs (z 0) (quotient_head r cs (λ e. z (suc e)))
  quotient_zeros r (c ∷ cs) z (suc e) = quotient_zeros r cs (λ d. z (suc d)) e

  ev_zeros : (cs : List ℕ) (x : ℕ) → Zeros q cs → ⟨ q ⟩ ev cs x ≈ 0
  unfolding ev
  ev_zeros [] x z = ≈_refl 0
  ev_zeros (c ∷ cs) x z = ≈_by (≈_add (z 0) (≈_scale x (ev_zeros cs x (λ e. z (suc e))))) (omega arith)

  pub ev_cong : (cs ds : List ℕ) (x : ℕ) → ((e : ℕ) → ⟨ q ⟩ get_or cs e 0 ≈ get_or ds e 0) → ⟨ q ⟩ ev cs x ≈ ev ds x
  unfolding ev
  ev_cong [] [] x h = ≈_refl 0
  ev_cong [] (d ∷ ds) x h = ≈_sym (ev_zeros (d ∷ ds) x (λ e. ≈_sym (h e)))
  ev_cong (c ∷ cs) [] x h = ev_zeros (c ∷ cs) x h
  ev_cong (c ∷ cs) (d ∷ ds) x h = ≈_add (h 0) (≈_scale x (ev_cong cs ds x (λ e. h (suc e))))

module _ {q : ℕ} (prime : Prime q) where
  -- a root of c ∷ cs other than r is a root of its quotient by (X - r)
  other_root : (r x c : ℕ) (cs : List ℕ) → (⟨ q ⟩ x ≈ r → ⊥) → ⟨ q ⟩ ev (c ∷ cs) r ≈ 0 → ⟨ q ⟩ ev (c ∷ cs) x ≈ 0 → ⟨ q ⟩ ev (quotient r cs) x ≈ 0
  unfolding ev
  other_root r x c cs ne at-r at_x =
      cancel_difference prime x r (ev (quotient r cs) x) ne
      (≈_by (≈_trans at_x (≈_sym at-r)) (omega (arith, quotient_ev r x cs)))

  pub roots : (rs cs : List ℕ) → length cs ≤ length rs → Apart q rs → ((i : ℕ) → i < length rs → ⟨ q ⟩ ev cs (get_or rs i 0) ≈ 0) → Zeros q cs
  roots [] [] h apart at = λ e. ≈_refl 0
  roots [] (c ∷ cs) h apart at = absurd (not-suc-le-zero h)
  roots (r ∷ rs) [] h apart at = λ e. ≈_refl 0
  roots (r ∷ rs) (c ∷ cs) h apart at = settle (roots rs (quotient r cs) short apart' at')
    where
      short : length (quotient r cs) ≤ length rs
      short = omega (arith, length_quotient r cs)

      apart' : Apart q rs
      apart' i j hi hj e = suc_inj (apart (suc i) (suc j) (omega arith) (omega arith) e)

      away : (i : ℕ) → i < length rs → ⟨ q ⟩ get_or rs i 0 ≈ r → ⊥
      away i hi e = let z : suc i ≡ 0 = apart (suc i) 0 (omega arith) (omega arith) e in omega arith

      at' : (i : ℕ) → i < length rs → ⟨ q ⟩ ev (quotient r cs) (get_or rs i 0) ≈ 0
      at' i hi = other_root r (get_or rs i 0) c cs (away i hi) (at 0 (omega arith)) (at (suc i) (omega arith))

      settle : Zeros q (quotient r cs) → Zeros q (c ∷ cs)
      settle z zero = constant r c cs (at 0 (omega arith)) (quotient_head r cs z)
      settle z (suc e) = quotient_zeros r cs z e

  -- the difference cs + (q - 1) * ds has these roots
  pub same_values : (rs cs ds : List ℕ) → length cs ≤ length rs → length ds ≤ length rs → Apart q rs
      → ((i : ℕ) → i < length rs → ⟨ q ⟩ ev cs (get_or rs i 0) ≈ ev ds (get_or rs i 0))
      → (e : ℕ) → ⟨ q ⟩ get_or cs e 0 ≈ get_or ds e 0
  same_values rs cs ds hc hd apart at e = minus (roots rs diff short apart zero_at e)
    where
      w : ℕ
      w = q - 1

      q_is : w + 1 ≡ q
      q_is = omega (arith, prime.above_one)

      diff : List ℕ
      diff = add cs (scale w ds)

      short : length diff ≤ length rs
      short = length_add cs (scale w ds) (length rs) hc (omega (arith, length_scale w ds))

      -- a + w * b ≈ 0 says a ≈ b
      over : (a b : ℕ) → ⟨ q ⟩ a ≈ b → ⟨ q ⟩ a + w * b ≈ 0
      over a b h = ≈_by (≈_add h (≈_multiple b)) (omega (arith, ap (λ (k : ℕ). k * b) q_is))

      back : (a b : ℕ) → ⟨ q ⟩ a + w * b ≈ 0 → ⟨ q ⟩ a ≈ b
      back a b h = ≈_by (≈_trans h (≈_sym (≈_multiple b))) (omega (arith, ap (λ (k : ℕ). k * b) q_is))

      zero_at : (i : ℕ) → i < length rs → ⟨ q ⟩ ev diff (get_or rs i 0) ≈ 0
      zero_at i hi =
          let x = get_or rs i 0 in
          ≈_trans (≈_of_eq (ev_add cs (scale w ds) x ∙ ap (λ (k : ℕ). ev cs x + k) (ev_scale w ds x))) (over (ev cs x) (ev ds x) (at i hi))

      minus : ⟨ q ⟩ get_or diff e 0 ≈ 0 → ⟨ q ⟩ get_or cs e 0 ≈ get_or ds e 0
      minus h =
          back (get_or cs e 0) (get_or ds e 0)
          (≈_trans (≈_of_eq (sym (get_or_add cs (scale w ds) e ∙ ap (λ (k : ℕ). get_or cs e 0 + k) (get_or_scale w ds e)))) h)
