-- `product::product` meets its contract.
use mathlib.Core.Path.{◌≡◌, refl, sym, ◌∙◌}
use Prim.Native.Nat.{◌*◌}
use lib.ListN.{length}
use Rattle.std.proofs.lemmas.Result.{err_from_is_err_and}
use Rattle.refusal.specs.Chain.{first}
use Rattle.refusal.specs.Numbers.{refusal_of, sheet}
use Rattle.field.specs.Modulus.{prime}
use Rattle.field.proofs.Moduli.{Known, known, is_named, is_unnamed}
use Rattle.product.specs.Product.{product_tests}
use Rattle.product.specs.Internal.{Multiplicable}
use Rattle.product.proofs.Outcomes.{refused, done, multiplicable}
use Rattle.product.proofs.product.Goals as goal
use Rattle.product.proofs.product.Goals.{In_ok-named, Else-element_test}

pub returns-in_err-named : goal.returns-in_err-named
unfolding first product_tests refusal_of sheet
returns-in_err-named c =
    let a = c.args in
    let p = err_from_is_err_and c.from_residual.result c.from_residual.ensures.1 in
    let unknown = is_unnamed a.modulus _ (sym c.in_err-named.was ∙ c.try_from.ensures) in
    rw (p.1, p.2, unknown.1) (refused a.modulus a.rows a.inner a.columns a.a.now a.b.now a.out.now 0 (rw unknown.0))

-- the modulus is named, so its number is known
known-modulus : (c : In_ok-named) → Known c.args.modulus (prime c.in_ok-named.named)
known-modulus c = known c.args.modulus (is_named c.args.modulus _ (sym c.in_ok-named.was ∙ c.try_from.ensures)) refl

pub returns-then-sizes_outside : goal.returns-then-sizes_outside
unfolding first product_tests refusal_of sheet
returns-then-sizes_outside c =
    let a = c.args in
    let m = known-modulus (goal.at.returns-then-sizes_outside c).In_ok-named in
    refused a.modulus a.rows a.inner a.columns a.a.now a.b.now a.out.now 1 (rw (m.is_number, ← c.sizes_outside.ensures, c.if-sizes_outside.true))

pub returns-then-over_block : goal.returns-then-over_block
unfolding first product_tests refusal_of sheet
returns-then-over_block c =
    let a = c.args in
    let m = known-modulus (goal.at.returns-then-over_block c).In_ok-named in
    refused a.modulus a.rows a.inner a.columns a.a.now a.b.now a.out.now 5
    (rw (m.is_number, ← c.sizes_outside.ensures, c.if-sizes_outside.false, ← c.over_block.ensures, c.if-over_block.true))

pub returns-then-length_test : goal.returns-then-length_test
unfolding first product_tests refusal_of sheet
returns-then-length_test c =
    let a = c.args in
    let m = known-modulus (goal.at.returns-then-length_test c).In_ok-named in
    refused a.modulus a.rows a.inner a.columns a.a.now a.b.now a.out.now 12
    (rw (m.is_number, ← c.sizes_outside.ensures, c.if-sizes_outside.false, ← c.over_block.ensures, c.if-over_block.false, ← c.length_test.ensures, c.if-length_test.true))

pub returns-then-element_test : goal.returns-then-element_test
unfolding first product_tests refusal_of sheet
returns-then-element_test c =
    let a = c.args in
    let m = known-modulus (goal.at.returns-then-element_test c).In_ok-named in
    refused a.modulus a.rows a.inner a.columns a.a.now a.b.now a.out.now 13
    (rw (m.is_number, ← c.sizes_outside.ensures, c.if-sizes_outside.false, ← c.over_block.ensures, c.if-over_block.false, ← c.length_test.ensures, c.if-length_test.false, m.is, ← c.element_test.ensures, c.if-element_test.true))

-- no test holds, so the shares are right and the output has room
passed : (c : Else-element_test)
    → let a = c.args in
    Multiplicable (prime c.in_ok-named.named) (record { rows = a.rows; inner = a.inner; columns = a.columns }) a.a.now a.b.now (a.rows * a.columns) × (length a.out.now ≡ a.rows * a.columns)
passed c =
    let a = c.args in
    multiplicable (prime c.in_ok-named.named) a.rows a.inner a.columns a.a.now a.b.now (length a.out.now) (sym c.sizes_outside.ensures ∙ c.if-sizes_outside.false)
    (sym c.over_block.ensures ∙ c.if-over_block.false) (sym c.length_test.ensures ∙ c.if-length_test.false) (sym c.element_test.ensures ∙ c.if-element_test.false)

pub invariant_of-shares : goal.invariant_of-shares
invariant_of-shares c = record { fit = (passed (goal.at.invariant_of-shares c).Else-element_test).0 }

pub multiply-requires : goal.multiply-requires
multiply-requires c = (passed (goal.at.multiply-requires c).Else-element_test).1

pub returns : goal.returns
unfolding first product_tests
returns c =
    let a = c.args in
    let m = known-modulus (goal.at.returns c).In_ok-named in
    done a.modulus a.rows a.inner a.columns a.a.now a.b.now a.out.now
    (rw (m.is_number, ← c.sizes_outside.ensures, c.if-sizes_outside.false, ← c.over_block.ensures, c.if-over_block.false, ← c.length_test.ensures, c.if-length_test.false, m.is, ← c.element_test.ensures, c.if-element_test.false))
    _ (rw m.is c.multiply.ensures)
