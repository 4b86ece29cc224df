-- Polynomials times (X + c), and divided by it.
--
--   get_or_add_root       coefficients
--   add_root_swap       two factors in either order, one of them with a scale
--   ev_drop            the value of what stands from e on, by what stands after e
--   ev_after           what stands after e of (X + c) times cs has, at an x with x + c ≈ 0, the value of coefficient e of cs
use mathlib.Core.Path.{◌≡◌, refl, ap, ◌∙◌}
use mathlib.Core.List.{List, [], ◌∷◌}
use Prim.Native.Nat.{ℕ, zero, suc, ◌+◌, ◌*◌}
use native.Mathlib.Omega.{arith}
use lib.ListN.{get_or, drop}
use Rattle.algebra.specs.Modular.{⟨◌⟩◌≈◌}
use Rattle.algebra.specs.Polynomials.{ev, scale, add, add_root}
use Rattle.algebra.proofs.Modular.{≈_refl, ≈_by, ≈_scale}
use Rattle.algebra.proofs.Polynomials.{ev_scale, ev_add, get_or_scale, get_or_add}

pub get_or_add_root : (c : ℕ) (cs : List ℕ) (e : ℕ) → get_or (add_root c cs) e 0 ≡ c * get_or cs e 0 + get_or (0 ∷ cs) e 0
unfolding add_root
get_or_add_root c cs e = get_or_add (scale c cs) (0 ∷ cs) e ∙ ap (λ (k : ℕ). k + get_or (0 ∷ cs) e 0) (get_or_scale c cs e)

pub add_root_swap : (c k d : ℕ) (cs : List ℕ) (e : ℕ)
    → get_or (add_root c (scale k (add_root d cs))) e 0 ≡ get_or (scale k (add_root d (add_root c cs))) e 0
add_root_swap c k d cs = at
  where
    left : (e : ℕ) → get_or (scale k (add_root d cs)) e 0 ≡ k * (d * get_or cs e 0 + get_or (0 ∷ cs) e 0)
    left e = get_or_scale k (add_root d cs) e ∙ ap (λ (z : ℕ). k * z) (get_or_add_root d cs e)

    right : (e : ℕ) → get_or (scale k (add_root d (add_root c cs))) e 0 ≡ k * (d * get_or (add_root c cs) e 0 + get_or (0 ∷ add_root c cs) e 0)
    right e = get_or_scale k (add_root d (add_root c cs)) e ∙ ap (λ (z : ℕ). k * z) (get_or_add_root d (add_root c cs) e)

    at : (e : ℕ) → get_or (add_root c (scale k (add_root d cs))) e 0 ≡ get_or (scale k (add_root d (add_root c cs))) e 0
    at zero =
        omega (arith, get_or_add_root c (scale k (add_root d cs)) 0, ap (λ (z : ℕ). c * z) (left 0), right 0, ap (λ (z : ℕ). k * (d * z)) (get_or_add_root c cs 0))
    at (suc e) =
        omega (
          arith,
          get_or_add_root c (scale k (add_root d cs)) (suc e),
          ap (λ (z : ℕ). c * z) (left (suc e)),
          left e,
          right (suc e),
          ap (λ (z : ℕ). k * (d * z)) (get_or_add_root c cs (suc e)),
          ap (λ (z : ℕ). k * z) (get_or_add_root c cs e),
        )

pub ev_drop : (cs : List ℕ) (e x : ℕ) → ev (drop e cs) x ≡ get_or cs e 0 + x * ev (drop (suc e) cs) x
unfolding ev
ev_drop [] zero x = omega arith
ev_drop [] (suc e) x = omega arith
ev_drop (c ∷ cs) zero x = refl
ev_drop (c ∷ cs) (suc e) x = ev_drop cs e x

module _ {q : ℕ} (x c : ℕ) (root : ⟨ q ⟩ x + c ≈ 0) where
  -- a in front of what (X + c) times cs has past its first coefficient
  after : (a : ℕ) (cs : List ℕ) (e : ℕ) → ⟨ q ⟩ ev (drop e (add (scale c cs) (a ∷ cs))) x ≈ get_or (a ∷ cs) e 0
  unfolding ev add scale
  after a cs zero =
      ≈_by (≈_scale (ev cs x) root) (omega (arith, ev_add (scale c cs) (a ∷ cs) x, ev_scale c cs x))
  after a [] (suc zero) = ≈_refl 0
  after a [] (suc (suc e)) = ≈_refl 0
  after a (b ∷ cs) (suc e) = after b cs e

  pub ev_after : (cs : List ℕ) (e : ℕ) → ⟨ q ⟩ ev (drop (suc e) (add_root c cs)) x ≈ get_or cs e 0
  unfolding add_root
  ev_after cs e = after 0 cs (suc e)
