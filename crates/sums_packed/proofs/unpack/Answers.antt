-- `sums_packed::unpack` meets its contract.
use mathlib.Core.Path.{◌≡◌, refl, sym, ap, ap₂, ◌∙◌}
use mathlib.Core.Bool.{not}
use mathlib.Core.List.{List, ◌++◌}
use lib.Dec.{eqb}
use Prim.Native.Nat.{ℕ, ◌%◌, min}
use native.Mathlib.Omega.{arith}
use lib.ListN.{length, get_or, drop, set}
use Rattle.algebra.specs.Lists.{tab}
use Rattle.algebra.proofs.Lists.{length_tab, get_or_tab}
use Rattle.algebra.proofs.Grids.{tab_cong}
use Rattle.algebra.proofs.Fronts.{front_none, front_more}
use Rattle.field.specs.Modulus.{prime}
use Rattle.sums.specs.Internal.{reduced}
use Rattle.sums_packed.specs.Internal.{half, halves}
use Rattle.sums_packed.proofs.unpack.Invariants.{element}
use Rattle.sums_packed.proofs.unpack.Goals as goal

pub loop-j-init : goal.loop-j-init
loop-j-init g c = front_none _ c.args.out.now

pub loop-j-preserved : goal.loop-j-preserved
loop-j-preserved g c =
    let a = c.args in
    let l = c.loop-j in
    let f = element g.row.UPPER a.modulus a.sums.now in
    let value : c.reduce.result ≡ f l.j = c.reduce.ensures ∙ ap (λ (x : ℕ). x % prime a.modulus) c.half_of.ensures in
    ap (set l.out l.j) value ∙ front_more f a.out.now l.out l.j (omega arith) l.invariant

pub returns : goal.returns
unfolding reduced halves
returns g c =
    let a = c.args in
    let sums = a.sums.now in
    let f : ℕ → ℕ = λ i. half (not (eqb g.row.UPPER 0)) (get_or sums i 0) in
    let q = prime a.modulus in
    let all : c.loop-j.j ≡ min (length (tab f (length sums))) (length a.out.now) = omega (arith, length_tab f (length sums)) in
    c.loop-j.invariant
    ∙ ap₂ (λ (xs ys : List ℕ). xs ++ ys)
    (tab_cong _ _ c.loop-j.j (λ i h. ap (λ (x : ℕ). x % q) (sym (get_or_tab f (length sums) i 0 (omega arith))))) refl
    ∙ ap (λ (n : ℕ). tab (λ i. get_or (tab f (length sums)) i 0 % q) n ++ drop n a.out.now) all
