-- `product::single_rows` meets its contract.
use mathlib.Core.Path.{◌≡◌, ap, ap₂, ◌∙◌}
use mathlib.Core.List.{◌++◌}
use Prim.Native.Nat.{ℕ, ◌+◌, ◌-◌, ◌*◌}
use native.Mathlib.Omega.{arith}
use lib.ListN.{length, take, drop, length-drop}
use lib.Seq.{length-take-le}
use Rattle.algebra.proofs.Orders.{row_end}
use Rattle.algebra.proofs.Grids.{rows_none, rows_some, rows_all}
use Rattle.field.specs.Modulus.{prime}
use Rattle.product.specs.Product.{product_of}
use Rattle.product.proofs.Rows.{part_rows, element}
use Rattle.product.proofs.single_rows.Goals as goal

pub loop-i-init : goal.loop-i-init
loop-i-init c = record { wide = c.requires.0; is = rows_none _ c.args.out.now c.args.x.sizes.columns }

pub loop-i-preserved : goal.loop-i-preserved
unfolding element
loop-i-preserved c =
    let a = c.args in
    let s = a.x.sizes in
    let q = prime a.x.modulus in
    let left = a.x.a.now in
    let right = a.x.b.now in
    let loop = c.loop-i in
    let i = loop.i in
    let row = take (i * s.inner + s.inner - i * s.inner) (drop (i * s.inner) left) in
    let there = row_end s.inner c.loop-i-test.true in
    let room = row_end s.columns c.loop-i-test.true in
    let inner : length row ≡ s.inner
    = length-take-le (i * s.inner + s.inner - i * s.inner) (drop (i * s.inner) left) (omega (arith, length-drop (i * s.inner) left, a.x.fit.length_a)) ∙ omega arith in
    let columns : length (take (i * s.columns + s.columns - i * s.columns) (drop (i * s.columns) loop.out)) ≡ s.columns
    = length-take-le (i * s.columns + s.columns - i * s.columns) (drop (i * s.columns) loop.out) (omega (arith, length-drop (i * s.columns) loop.out)) ∙ omega arith in
    let one : i * s.inner + s.inner - i * s.inner ≡ 1 * s.inner = omega arith in
    let across : i * s.columns + s.columns - i * s.columns ≡ 1 * s.columns = omega arith in
    let made = c.product_row.ensures
    ∙ ap₂ (λ (n k : ℕ). product_of q 1 n k row right) inner columns
    ∙ ap (λ (n : ℕ). product_of q 1 s.inner s.columns (take n (drop (i * s.inner) left)) right) one
    ∙ part_rows q s.inner s.columns left right i 1 in
    record {
      wide = omega arith;
      is =
          ap (λ (n : ℕ). take (i * s.columns) loop.out ++ (c.product_row.new.out ++ drop n (drop (i * s.columns) loop.out))) across
          ∙ rows_some (element a.x.modulus s.inner s.columns left right) a.out.now loop.out _ s.columns i 1 loop.invariant.is made;
    }

pub returns : goal.returns
unfolding product_of element
returns c =
    let a = c.args in
    let s = a.x.sizes in
    let all : c.loop-i.i ≡ s.rows = omega arith in
    rows_all (element a.x.modulus s.inner s.columns a.x.a.now a.x.b.now) a.out.now c.loop-i.out s.rows s.columns c.requires.1
    (rw all at c.loop-i.invariant.is)
