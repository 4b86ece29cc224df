-- The points of some hosts, by their indices.
--
--   points_at points indices   the points at these indices
--   points_tab               the same, tabulated
--   points_each              what holds of every point holds of them
--   points_apart             distinct points at distinct indices
use mathlib.Core.Path.{◌≡◌, sym, ◌∙◌, subst}
use mathlib.Core.List.{List, map}
use Prim.Native.Nat.{ℕ, ◌<◌}
use native.Mathlib.Omega.{arith}
use lib.ListN.{length, get_or, length-map}
use lib.Seq.{ext_get_or}
use Rattle.algebra.specs.Lists.{tab, AllBelow, Distinct}
use Rattle.algebra.proofs.Lists.{length_tab, get_or_tab, get_d_map}

abbrev pub points_at : List ℕ → List ℕ → List ℕ
points_at points indices = map (λ h. get_or points h 0) indices

module _ (points indices : List ℕ) where
  -- as many points as indices
  among : (k : ℕ) → k < length (points_at points indices) → k < length indices
  among k h = omega (arith, length-map indices (λ h. get_or points h 0))

  at : (k : ℕ) → k < length (points_at points indices) → get_or (points_at points indices) k 0 ≡ get_or points (get_or indices k 0) 0
  at k h = get_d_map (λ h. get_or points h 0) indices k (among k h)

  pub points_tab : tab (λ k. get_or points (get_or indices k 0) 0) (length indices) ≡ points_at points indices
  points_tab =
      let size = length_tab (λ (k : ℕ). get_or points (get_or indices k 0) 0) (length indices) in
      ext_get_or 0 _ _ (size ∙ sym (length-map indices (λ h. get_or points h 0)))
      (λ k h. get_or_tab _ (length indices) k 0 (omega arith) ∙ sym (get_d_map (λ h. get_or points h 0) indices k (omega arith)))

  module _ (below : AllBelow (length points) indices) where
    pub points_each : (P : ℕ → Type 0) → ((i : ℕ) → i < length points → P (get_or points i 0))
        → (k : ℕ) → k < length (points_at points indices) → P (get_or (points_at points indices) k 0)
    points_each P each k h = subst P (sym (at k h)) (each (get_or indices k 0) (below k (among k h)))

    pub points_apart : Distinct points → Distinct indices → Distinct (points_at points indices)
    points_apart points_distinct indices-distinct i j hi hj e =
        let a = among i hi in
        let b = among j hj in
        indices-distinct i j a b (points_distinct (get_or indices i 0) (get_or indices j 0) (below i a) (below j b) (sym (at i hi) ∙ e ∙ at j hj))
