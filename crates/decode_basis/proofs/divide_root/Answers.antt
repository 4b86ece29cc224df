-- `decode_basis::divide_root` meets its contract.
use mathlib.Core.Path.{◌≡◌, refl, ap, ◌∙◌}
use Prim.Native.Nat.{ℕ, ◌+◌, ◌-◌, ◌*◌, ◌%◌}
use native.Mathlib.Omega.{arith}
use Rattle.std.proofs.Common.{rules}
use lib.ListN.{length, get_or, drop, set}
use Rattle.algebra.proofs.Fronts.{back_none, back_more}
use Rattle.field.specs.Modulus.{prime}
use Rattle.decode_basis.specs.Internal.{quotient}
use Rattle.decode_basis.proofs.Steps.{after, after_none, after_more}
use Rattle.decode_basis.proofs.divide_root.Goals as goal

pub loop-e-init : goal.loop-e-init
loop-e-init c =
    let a = c.args in
    let n = length a.out.now in
    record { is = back_none (after (prime a.modulus) a.x a.cs.now n) a.out.now n refl; last = after_none (prime a.modulus) a.x a.cs.now n }

pub loop-e-preserved : goal.loop-e-preserved
loop-e-preserved c =
    let a = c.args in
    let q = prime a.modulus in
    let l = c.loop-e in
    let e = l.e in
    let n = length a.out.now in
    let f = after q a.x a.cs.now n in
    let next : c.unwrap_or-next.result ≡ get_or a.cs.now (e - 1 + 1) 0 = search rules in
    let place : e - 1 + 1 ≡ e = omega arith in
    let value : c.plus_product-value.result ≡ f (e - 1)
    = c.plus_product-value.ensures
    ∙ ap (λ (k : ℕ). (k + a.x * l.value) % q) (next ∙ ap (λ (k : ℕ). get_or a.cs.now k 0) place)
    ∙ after_more q a.x a.cs.now n l.value e (omega arith) (omega arith) l.invariant.last in
    record {
      is =
          ap (λ (v : ℕ). drop (e - 1) (set l.out (e - 1) v)) value
          ∙ back_more f l.out n e l.auto.out (omega arith) (omega arith) l.invariant.is;
      last = value;
    }

pub returns : goal.returns
unfolding quotient after
returns c = let all : c.loop-e.e ≡ 0 = omega arith in rw all at c.loop-e.invariant.is
