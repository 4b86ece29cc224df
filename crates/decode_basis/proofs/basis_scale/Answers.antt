-- `decode_basis::basis_scale` meets its contract.
use mathlib.Core.Path.{◌≡◌, refl, sym, ap, ap₂, ◌∙◌}
use mathlib.Core.List.{List, [], ◌∷◌, ◌++◌, append_assoc, append-nil}
use Prim.Native.Nat.{ℕ, ◌+◌, ◌-◌, ◌*◌, ◌%◌}
use native.Mathlib.Omega.{arith}
use Rattle.algebra.specs.Modular.{inverse}
use Rattle.field.specs.Modulus.{prime}
use Rattle.field.proofs.Moduli.{prime_small}
use Rattle.decode_basis.specs.Internal.{basis_scale}
use Rattle.decode_basis.proofs.Steps.{residue_below, all_passed, scale_skip, scale_more}
use Rattle.decode_basis.proofs.basis_scale.Goals as goal

pub loop-y-init : goal.loop-y-init
unfolding basis_scale
loop-y-init c =
    let all : c.into_iter-y-iterator.result.iter.rest.now ≡ c.args.points.now = cc in
    ([], sym (append-nil _ ∙ all), refl)

pub overflow_sub-difference : goal.overflow_sub-difference
overflow_sub-difference c =
    omega (arith, c.prime_of-q.ensures, c.reduce-other.ensures, residue_below c.args.modulus c.in-Some.y.now)

pub overflow_add-difference : goal.overflow_add-difference
overflow_add-difference c =
    omega (arith, c.prime_of-q.ensures, c.reduce-own.ensures, residue_below c.args.modulus c.args.x, prime_small c.args.modulus)

pub loop-y-preserved-then-own-other : goal.loop-y-preserved-then-own-other
loop-y-preserved-then-own-other c =
    let x = c.args.x in
    let q = prime c.args.modulus in
    let passed = c.loop-y.invariant.0 in
    let y = c.in-Some.y.now in
    let own = c.reduce-own.ensures in
    let other = c.reduce-other.ensures in
    let difference : c.reduce-own.result + (c.prime_of-q.result - c.reduce-other.result) ≡ x % q + (q - y % q)
    = ap₂ (λ (k d : ℕ). k + d) own (ap₂ (λ (k d : ℕ). k - d) c.prime_of-q.ensures other) in
    let inverse-is : c.inverse_of-inverse.result ≡ inverse q (x % q + (q - y % q)) = c.inverse_of-inverse.ensures ∙ ap (inverse q) difference in (
      y ∷ passed,
      c.loop-y.invariant.1
          ∙ ap (λ (l : List ℕ). l ++ passed) c.in-Some.ensures.steps
          ∙ append_assoc c.next.new.self.iter.rest.now (y ∷ []) passed,
      c.multiply-scale.ensures
          ∙ ap₂ (λ (k s : ℕ). k * s % q) inverse-is c.loop-y.invariant.2
          ∙ scale_more q x y passed (λ e. c.if-own-other.true (own ∙ e ∙ sym other)),
    )

pub loop-y-preserved : goal.loop-y-preserved
loop-y-preserved c =
    let x = c.args.x in
    let q = prime c.args.modulus in
    let passed = c.loop-y.invariant.0 in
    let y = c.in-Some.y.now in (
      y ∷ passed,
      c.loop-y.invariant.1
          ∙ ap (λ (l : List ℕ). l ++ passed) c.in-Some.ensures.steps
          ∙ append_assoc c.next.new.self.iter.rest.now (y ∷ []) passed,
      c.loop-y.invariant.2 ∙ scale_skip q x y passed (sym c.reduce-own.ensures ∙ c.if-own-other.false ∙ c.reduce-other.ensures),
    )

pub returns : goal.returns
returns c =
    let all = all_passed c.args.points.now c.loop-y.y-iterator.iter.rest.now c.loop-y.invariant.0 c.loop-y.invariant.1 c.in-None.ensures.steps.0 in
    c.loop-y.invariant.2 ∙ ap (basis_scale (prime c.args.modulus) c.args.x) all
