-- `decode_basis::plus_product` meets its contract.
use mathlib.Core.Path.{ap, ◌∙◌}
use Prim.Native.Nat.{ℕ, ◌+◌, ◌-◌, ◌%◌, ◌^◌, ◌≤◌}
use native.Mathlib.Nat.{mul-le-mul}
use native.Mathlib.Omega.{arith}
use Rattle.field.specs.Modulus.{prime}
use Rattle.decode_basis.proofs.plus_product.Goals as goal

pub overflow_add-a : goal.overflow_add-a
overflow_add-a c =
    let a = c.args in
    let b-fits : a.b ≤ 2 ^ 32 - 1 = omega arith in
    let c-fits : a.c ≤ 2 ^ 32 - 1 = omega arith in
    omega (arith, c.wide_product.ensures, mul-le-mul b-fits c-fits)

pub returns : goal.returns
returns c =
    let a = c.args in
    c.reduce.ensures ∙ ap (λ (p : ℕ). (a.a + p) % prime a.modulus) c.wide_product.ensures
