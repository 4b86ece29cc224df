-- An answer's element as the value of a polynomial, and what the polynomial has at the places of C.
--
--   coefficients  of the polynomial of the answer's element at i, v
--   answer_is     its value at x is the element, modulo q
--   place_is      at the place of C(k,j) it has the element of A times B
use mathlib.Core.Path.{sym, ◌∙◌}
use mathlib.Core.List.{List}
use Prim.Native.Nat.{ℕ, ◌+◌, ◌*◌, ◌%◌, ◌<◌}
use lib.ListN.{get_or}
use Rattle.algebra.specs.Lists.{tab, entry}
use Rattle.algebra.specs.Sums.{sum}
use Rattle.algebra.specs.Modular.{⟨◌⟩◌≈◌}
use Rattle.algebra.specs.Polynomials.{ev}
use Rattle.algebra.proofs.Grids.{get_or_grid, entry_grid}
use Rattle.algebra.proofs.Modular.{≈_trans, ≈_of_eq, ≈_mod, ≈_mul}
use Rattle.algebra.proofs.Sums.{sum_≈, sum_swap, sum_split}
use Rattle.algebra.proofs.Polynomials.{ev_tab}
use Rattle.layout.specs.declared.Parameters.{Parameters}
use Rattle.layout.specs.Exponents.{Exponents, term}
use Rattle.layout.specs.Sound.{Sound}
use Rattle.share_side.specs.declared.Matrix.TheVariants.{A, B}
use Rattle.share_side.specs.declared.Side.{Side}
use Rattle.share_side.specs.Sides.{cut_side}
use Rattle.share.specs.Sharing.{block_entry, mask_entry, share_entry, share_of}
use Rattle.product.specs.Product.{product_entry, product_of}
use Rattle.promise.specs.Layouts.{answer_of}
use Rattle.promise.proofs.ExactSums.{whole, Expands, expands_sum}
use Rattle.promise.proofs.ExactPlaces.{value_a, value_b, places, places_expand, places_meet}

module _ (g : Parameters) (rows inner columns : ℕ) (e : Exponents) (a ma b mb : List ℕ) (i v : ℕ) where
  -- the sides of A and of B
  abbrev side_a : Side
  side_a = cut_side A g rows inner columns

  abbrev side_b : Side
  side_b = cut_side B g rows inner columns

  -- the polynomial of one product in the sum over u
  product : ℕ → ℕ → ℕ
  product u =
      places g e (λ k l. block_entry side_a a k l i u) (λ y. mask_entry side_a ma y i u)
      (λ l j. block_entry side_b b l j u v) (λ y. mask_entry side_b mb y u v)

  pub coefficients : ℕ → ℕ
  coefficients d = sum inner (λ u. product u d)

  module _ {q : ℕ} (s : Sound g e) where
    share_expands : (x u : ℕ)
        → Expands q e.needed x (share_entry e side_a x a ma i u * share_entry e side_b x b mb u v) (product u)
    unfolding product share_entry term value_a value_b whole
    share_expands x u = places_expand g e _ _ _ _ s

    pub answer_is : (x : ℕ) → i < rows → v < columns
        → ⟨ q ⟩ get_or (answer_of q g rows inner columns e x a ma b mb) (i * columns + v) 0 ≈ ev (tab coefficients e.needed) x
    unfolding answer_of product_of product_entry share_of coefficients
    answer_is x hi hv =
        let left : ℕ → ℕ → ℕ = λ i u. share_entry e side_a x a ma i u in
        let right : ℕ → ℕ → ℕ = λ u v. share_entry e side_b x b mb u v in
        ≈_trans (≈_of_eq (get_or_grid _ rows columns i v 0 hi hv))
        (≈_trans (≈_mod _)
        (≈_trans
        (sum_≈ inner _ (λ u. left i u * right u v) (λ u hu. ≈_mul
        (≈_trans (≈_of_eq (entry_grid (λ i u. left i u % q) rows inner i u hi hu)) (≈_mod (left i u)))
        (≈_trans (≈_of_eq (entry_grid (λ u v. right u v % q) inner columns u v hu hv)) (≈_mod (right u v)))))
        (≈_trans (expands_sum inner (λ u. left i u * right u v) product (λ u hu. share_expands x u)).is
        (≈_of_eq (sym (ev_tab coefficients e.needed x))))))

    pub place_is : (k j : ℕ) → k < g.m → j < g.n
        → ⟨ q ⟩ coefficients (e.place k j)
        ≈ product_entry (g.p * inner) (g.n * columns) a b (k * rows + i) (j * columns + v)
    unfolding coefficients product_entry product block_entry
    place_is k j hk hj =
        let p : ℕ = g.p in
        let wide : ℕ = p * inner in
        let f : ℕ → ℕ = λ w. entry wide a (k * rows + i) w * entry (g.n * columns) b w (j * columns + v) in
        ≈_trans
        (sum_≈ inner (λ u. product u (e.place k j)) (λ u. sum p (λ l. f (l * inner + u)))
        (λ u hu. places_meet g e _ _ _ _ s k j hk hj))
        (≈_of_eq (sum_swap inner p (λ u l. f (l * inner + u)) ∙ sym (sum_split p inner f)))
