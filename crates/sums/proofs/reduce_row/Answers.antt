-- `sums::reduce_row` meets its contract.
use mathlib.Core.Path.{◌≡◌, ap, ◌∙◌}
use mathlib.Core.List.{◌++◌}
use Prim.Native.Nat.{ℕ, ◌%◌, min}
use native.Mathlib.Omega.{arith}
use lib.ListN.{length, get_or, drop, set}
use Rattle.algebra.specs.Lists.{tab}
use Rattle.field.specs.Modulus.{prime}
use Rattle.sums.specs.Internal.{reduced}
use Rattle.algebra.proofs.Fronts.{front_none, front_more}
use Rattle.sums.proofs.reduce_row.Goals as goal

pub loop-j-init : goal.loop-j-init
loop-j-init c = front_none _ c.args.out.now

pub loop-j-preserved : goal.loop-j-preserved
loop-j-preserved c =
    let a = c.args in
    let l = c.loop-j in
    let f : ℕ → ℕ = λ i. get_or a.sums.now i 0 % prime a.modulus in
    let value : c.reduce.result ≡ f l.j = c.reduce.ensures in
    ap (set l.out l.j) value ∙ front_more f a.out.now l.out l.j (omega arith) l.invariant

pub returns : goal.returns
unfolding reduced
returns c =
    let a = c.args in
    let all : c.loop-j.j ≡ min (length a.sums.now) (length a.out.now) = omega arith in
    c.loop-j.invariant ∙ ap (λ (n : ℕ). tab (λ i. get_or a.sums.now i 0 % prime a.modulus) n ++ drop n a.out.now) all
