-- `message_bytes::same_bytes` meets its contract.
use mathlib.Core.Path.{sym, ap, ap₂, ◌∙◌}
use mathlib.Core.Bool.{◌&&◌}
use Prim.Native.Nat.{ℕ}
use native.Mathlib.Omega.{arith}
use lib.Dec.{eqb}
use lib.ListN.{length, get_or}
use Rattle.algebra.proofs.Lists.{same_long, same_none, same_step, same_all}
use Rattle.message_bytes.specs.Bytes.{bytes_of, elements_of}
use Rattle.message_bytes.proofs.Bytes.{length_bytes_of, same_elements}
use Rattle.message_bytes.proofs.Words.{length_elements, element_is, no_bit_differs}
use Rattle.message_bytes.proofs.same_bytes.Goals as goal

pub returns-then-bytes-xs : goal.returns-then-bytes-xs
returns-then-bytes-xs c =
    let a = c.args in
    sym (same_long a.bytes.now (bytes_of a.xs.now) (λ e. let no : ⊥ = omega (arith, e, length_bytes_of a.xs.now) in no))

pub loop-i-init : goal.loop-i-init
loop-i-init c = sym (same_none c.args.bytes.now c.args.xs.now)

pub loop-i-preserved : goal.loop-i-preserved
loop-i-preserved c =
    let bytes = c.args.bytes.now in
    let xs = c.args.xs.now in
    let held = elements_of (length xs) bytes in
    let x = get_or xs c.loop-i.i 0 in
    no_bit_differs c.loop-i.differ c.element_at.result x
    ∙ ap₂ ◌&&◌ c.loop-i.invariant (ap (λ (n : ℕ). eqb n x) (c.element_at.ensures ∙ sym (element_is (length xs) bytes c.loop-i.i (omega arith))))
    ∙ sym (same_step held xs c.loop-i.i (omega (arith, length_elements (length xs) bytes)) (omega arith))

pub returns : goal.returns
returns c =
    let bytes = c.args.bytes.now in
    let xs = c.args.xs.now in
    let held = elements_of (length xs) bytes in
    c.loop-i.invariant
    ∙ sym (same_all held xs c.loop-i.i (omega (arith, length_elements (length xs) bytes)) (omega arith))
    ∙ sym (same_elements bytes xs (λ i _. (c.type_inv.bytes i).fits) (λ i _. (c.type_inv.xs i).fits) (omega arith))
