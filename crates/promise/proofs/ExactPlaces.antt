-- A product of two shares of a sound layout, by its coefficients.
--
--   value_a, value_b    the values at x of the polynomials of A and of B: blocks and masks, each times x to its exponent
--   places            the coefficients of their product
--   places_expand     the product of the values is the value of the product
--   places_meet       at the place of C(k,j) stands the sum of A(k,l) times B(l,j)
use mathlib.Core.Path.{◌≡◌, sym, ap, ◌∙◌}
use Prim.Native.Nat.{ℕ, ◌+◌, ◌*◌, ◌^◌, ◌<◌}
use native.Mathlib.Nat.{mul_comm}
use native.Mathlib.Omega.{arith}
use lib.Pow.{pow-add}
use Rattle.algebra.specs.Sums.{sum}
use Rattle.algebra.specs.Modular.{⟨◌⟩◌≈◌}
use Rattle.algebra.proofs.Modular.{≈_trans, ≈_of_eq}
use Rattle.algebra.proofs.Sums.{sum_≈}
use Rattle.layout.specs.declared.Parameters.{Parameters}
use Rattle.layout.specs.Exponents.{Exponents}
use Rattle.layout.specs.Sound.{Sound}
use Rattle.promise.proofs.ExactSums.{whole, whole_none, whole_row, whole_one, whole_times, pick, pick_own, pick_other, Expands, expands_eq, expands_term, expands_whole}

unfoldable pub value_a : Parameters → Exponents → (ℕ → ℕ → ℕ) → (ℕ → ℕ) → ℕ → ℕ
value_a g e a ma x = whole g.m g.p g.xa (λ k l. a k l * x ^ e.block_a k l) (λ y. ma y * x ^ e.mask_a y)

unfoldable pub value_b : Parameters → Exponents → (ℕ → ℕ → ℕ) → (ℕ → ℕ) → ℕ → ℕ
value_b g e b mb x = whole g.p g.n g.xb (λ l j. b l j * x ^ e.block_b l j) (λ y. mb y * x ^ e.mask_b y)

module _ (g : Parameters) (e : Exponents) (a : ℕ → ℕ → ℕ) (ma : ℕ → ℕ) (b : ℕ → ℕ → ℕ) (mb : ℕ → ℕ) where
  -- the coefficients of c times X to the d, times B's polynomial
  row : ℕ → ℕ → ℕ → ℕ
  row c d i = whole g.p g.n g.xb (λ l j. pick (d + e.block_b l j) (c * b l j) i) (λ y. pick (d + e.mask_b y) (c * mb y) i)

  pub places : ℕ → ℕ
  places i = whole g.m g.p g.xa (λ k l. row (a k l) (e.block_a k l) i) (λ y. row (ma y) (e.mask_a y) i)

  -- ---- the product is below K

  module _ {q x : ℕ} where
    term_expands : (c d u f : ℕ) → d + f < e.needed → Expands q e.needed x ((c * x ^ d) * (u * x ^ f)) (pick (d + f) (c * u))
    term_expands c d u f h =
        expands_eq (omega (arith, ap (λ (z : ℕ). (c * u) * z) (pow-add x d f))) (expands_term (c * u) (d + f) h)

    row_expands : (c d : ℕ) → ((l j : ℕ) → l < g.p → j < g.n → d + e.block_b l j < e.needed) → ((y : ℕ) → y < g.xb → d + e.mask_b y < e.needed)
        → Expands q e.needed x (value_b g e b mb x * (c * x ^ d)) (row c d)
    unfolding row value_b
    row_expands c d h i =
        let w : ℕ = c * x ^ d in
        expands_eq
        (mul_comm (value_b g e b mb x) w ∙ whole_times g.p g.n g.xb (λ l j. b l j * x ^ e.block_b l j) (λ y. mb y * x ^ e.mask_b y) w)
        (expands_whole g.p g.n g.xb (λ l j. w * (b l j * x ^ e.block_b l j)) (λ y. w * (mb y * x ^ e.mask_b y))
        (λ l j. pick (d + e.block_b l j) (c * b l j)) (λ y. pick (d + e.mask_b y) (c * mb y))
        (λ l j hl hj. term_expands c d (b l j) (e.block_b l j) (h l j hl hj))
        (λ y hy. term_expands c d (mb y) (e.mask_b y) (i y hy)))

    pub places_expand : Sound g e → Expands q e.needed x (value_a g e a ma x * value_b g e b mb x) places
    unfolding places value_a
    places_expand s =
        let w : ℕ = value_b g e b mb x in
        expands_eq
        (mul_comm (value_a g e a ma x) w ∙ whole_times g.m g.p g.xa (λ k l. a k l * x ^ e.block_a k l) (λ y. ma y * x ^ e.mask_a y) w)
        (expands_whole g.m g.p g.xa (λ k l. w * (a k l * x ^ e.block_a k l)) (λ y. w * (ma y * x ^ e.mask_a y))
        (λ k l. row (a k l) (e.block_a k l)) (λ y. row (ma y) (e.mask_a y))
        (λ k l hk hl. row_expands (a k l) (e.block_a k l) (λ h j. s.bounded.below k l h j hk hl) (λ y. s.bounded.below_b k l y hk hl))
        (λ y hy. row_expands (ma y) (e.mask_a y) (λ l j. s.bounded.below_a y l j hy) (λ z. s.bounded.below_ab y z hy)))

  -- ---- what stands at the place of C(k,j)

  -- none of c times X to the d times B's polynomial stands at i
  row_none : {q : ℕ} (c d i : ℕ) → ((l j : ℕ) → l < g.p → j < g.n → d + e.block_b l j ≡ i → ⊥) → ((y : ℕ) → y < g.xb → d + e.mask_b y ≡ i → ⊥)
      → ⟨ q ⟩ row c d i ≈ 0
  unfolding row
  row_none c d i h clear =
      whole_none g.p g.n g.xb (λ l j. pick (d + e.block_b l j) (c * b l j) i) (λ y. pick (d + e.mask_b y) (c * mb y) i)
      (λ y hy. ≈_of_eq (pick_other (d + e.mask_b y) (c * mb y) i (clear y hy)))
      (λ l j hl hj. ≈_of_eq (pick_other (d + e.block_b l j) (c * b l j) i (h l j hl hj)))

  module _ (s : Sound g e) (k j : ℕ) (hk : k < g.m) (hj : j < g.n) where
    i : ℕ
    i = e.place k j

    row_one : {q : ℕ} (l : ℕ) → l < g.p → ⟨ q ⟩ row (a k l) (e.block_a k l) i ≈ a k l * b l j
    unfolding row i
    row_one l hl =
        let c : ℕ = a k l in
        let d : ℕ = e.block_a k l in
        ≈_trans
        (whole_one g.p g.n g.xb (λ h v. pick (d + e.block_b h v) (c * b h v) i) (λ y. pick (d + e.mask_b y) (c * mb y) i)
        (λ y hy. ≈_of_eq (pick_other (d + e.mask_b y) (c * mb y) i (s.clear_b k l y k j hk hl hy hk hj)))
        l j hl hj
        (λ h v hh hv ne. ≈_of_eq (pick_other (d + e.block_b h v) (c * b h v) i
        (λ is. let t = s.only k l h v k j hk hl hh hv hk hj is in ne (sym t.1, t.2)))))
        (≈_of_eq (pick_own (d + e.block_b l j) (c * b l j) i (s.meet k l j hk hl hj)))

    pub places_meet : {q : ℕ} → ⟨ q ⟩ places (e.place k j) ≈ sum g.p (λ l. a k l * b l j)
    unfolding places i
    places_meet =
        ≈_trans
        (whole_row g.m g.p g.xa (λ u l. row (a u l) (e.block_a u l) i) (λ y. row (ma y) (e.mask_a y) i)
        (λ y hy. row_none (ma y) (e.mask_a y) i (λ l v hl hv. s.clear_a y l v k j hy hl hv hk hj) (λ z hz. s.clear_ab y z k j hy hz hk hj))
        k hk
        (λ u l hu hl ne. row_none (a u l) (e.block_a u l) i
        (λ h v hh hv is. ne (s.only u l h v k j hu hl hh hv hk hj is).0)
        (λ y hy. s.clear_b u l y k j hu hl hy hk hj)))
        (sum_≈ g.p (λ l. row (a k l) (e.block_a k l) i) (λ l. a k l * b l j) (λ l hl. row_one l hl))
