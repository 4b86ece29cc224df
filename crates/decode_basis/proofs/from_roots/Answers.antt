-- `decode_basis::from_roots` meets its contract.
use mathlib.Core.Path.{◌≡◌, sym, ap, ap₂, ◌∙◌}
use mathlib.Core.List.{List, [], ◌∷◌, ◌++◌, append_assoc, append-nil}
use Prim.Native.Nat.{ℕ}
use lib.ListN.{length}
use Rattle.algebra.proofs.Lists.{length_tab}
use Rattle.field.specs.Modulus.{prime}
use Rattle.field.proofs.Moduli.{prime_prime}
use Rattle.decode_basis.specs.Internal.{coefficients, root_product}
use Rattle.decode_basis.proofs.Steps.{all_passed, product_none, product_more}
use Rattle.decode_basis.proofs.from_roots.Goals as goal
use Rattle.decode_basis.proofs.from_roots.Goals.{After-set_one}

-- as many coefficients as have room
room : (c : After-set_one) → length c.set_one.new.out ≡ length c.args.out.now
room c = ap length c.set_one.ensures ∙ length_tab _ (length c.args.out.now)

pub loop-y-init : goal.loop-y-init
loop-y-init c =
    let a = c.args in
    let q = prime a.modulus in
    let all : c.into_iter-y-iterator.result.iter.rest.now ≡ a.points.now = cc in (
      [],
      sym (append-nil _ ∙ all),
      c.set_one.ensures
          ∙ product_none q (length a.out.now) (prime_prime a.modulus).above_one
          ∙ ap (coefficients q (root_product q [])) (sym (room (goal.at.loop-y-init c).After-set_one)),
    )

pub loop-y-preserved : goal.loop-y-preserved
loop-y-preserved c =
    let q = prime c.args.modulus in
    let passed = c.loop-y.invariant.0 in
    let y = c.in-Some.y.now in (
      y ∷ passed,
      c.loop-y.invariant.1
          ∙ ap (λ (l : List ℕ). l ++ passed) c.in-Some.ensures.steps
          ∙ append_assoc c.next.new.self.iter.rest.now (y ∷ []) passed,
      c.times_root.ensures ∙ product_more q (length c.set_one.new.out) c.loop-y.out passed y c.loop-y.invariant.2,
    )

pub returns : goal.returns
returns c =
    let q = prime c.args.modulus in
    let all = all_passed c.args.points.now c.loop-y.y-iterator.iter.rest.now c.loop-y.invariant.0 c.loop-y.invariant.1 c.in-None.ensures.steps.0 in
    c.loop-y.invariant.2
    ∙ ap₂ (λ (ys : List ℕ) (n : ℕ). coefficients q (root_product q ys) n) all (room (goal.at.returns c).After-set_one)
