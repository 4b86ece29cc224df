-- `share_side::weigh` meets its contract.
use mathlib.Core.Path.{◌≡◌, ap, ◌∙◌}
use mathlib.Core.List.{List, ◌++◌}
use Prim.Native.Nat.{ℕ, ◌^◌, ◌%◌}
use native.Mathlib.Omega.{arith}
use lib.ListN.{length, take, drop, set}
use lib.Seq.{length-take-le}
use Rattle.algebra.specs.Lists.{tab}
use Rattle.algebra.proofs.Fronts.{front_none, front_more, front_all}
use Rattle.field.specs.Modulus.{prime}
use Rattle.share_side.specs.Internal.{weight, weighed}
use Rattle.share_side.proofs.weigh.Goals as goal

pub loop-j-init : goal.loop-j-init
loop-j-init c = front_none _ (take c.min-n.result c.args.out.now)

pub loop-j-preserved : goal.loop-j-preserved
loop-j-preserved c =
    let a = c.args in
    let l = c.loop-j in
    let f = weight (prime a.modulus) a.strides a.series a.x a.row in
    let value : c.power.result ≡ f l.j = c.power.ensures ∙ ap (λ (n : ℕ). a.x ^ n % prime a.modulus) c.exponent_of-exponent.ensures in
    ap (set l.weight-items l.j) value ∙ front_more f (take c.min-n.result a.out.now) l.weight-items l.j (omega arith) l.invariant

pub returns : goal.returns
unfolding weighed
returns c =
    let a = c.args in
    let n = c.min-n.result in
    let f = weight (prime a.modulus) a.strides a.series a.x a.row in
    let part = take n a.out.now in
    let size : length part ≡ n = length-take-le n a.out.now (omega (arith, c.min-n.ensures)) in
    let all : c.loop-j.j ≡ n = omega arith in
    let front : c.loop-j.weight-items ≡ tab f n
    = c.loop-j.invariant ∙ ap (λ (k : ℕ). tab f k ++ drop k part) all ∙ front_all f part n (omega arith) in
    ap (λ (l : List ℕ). l ++ drop n a.out.now) front ∙ ap (λ (k : ℕ). tab f k ++ drop k a.out.now) c.min-n.ensures
