-- `product::multiply_rows` meets its contract.
use mathlib.Core.Path.{◌≡◌, ap, ◌∙◌}
use mathlib.Core.List.{◌++◌}
use Prim.Native.Nat.{ℕ, ◌+◌, ◌*◌, ◌≤◌, min}
use native.Mathlib.Nat.{mul-le-mul_right, add-sub_cancel_left}
use native.Mathlib.Omega.{arith}
use lib.ListN.{take, drop}
use Rattle.algebra.specs.Lists.{grid}
use Rattle.algebra.proofs.Grids.{rows_none, rows_some, rows_all}
use Rattle.field.specs.Modulus.{prime}
use Rattle.product.specs.Product.{product_of}
use Rattle.product.specs.Internal.{AtOnce}
use Rattle.product.proofs.Rows.{part_rows, element}
use Rattle.product.proofs.multiply_rows.Goals as goal
use Rattle.product.proofs.multiply_rows.Goals.{After-min-n, After-few_rows}

pub loop-i-init : goal.loop-i-init
loop-i-init c =
    let none : min 0 c.args.x.sizes.rows ≡ 0 = omega arith in
    record { wide = c.requires.0; is = rw none (rows_none _ c.args.out.now c.args.x.sizes.columns) }

-- the rows of this turn: one or two of those that are left
turn : (c : After-min-n)
    → let a = c.args in
    let i = c.loop-i.i in
    let n = c.min-n.result in
    AtOnce (prime a.x.modulus) a.x.sizes.inner n × (i + n ≤ a.x.sizes.rows) × (i * a.x.sizes.inner + n * a.x.sizes.inner ≤ a.x.sizes.rows * a.x.sizes.inner) × (i * a.x.sizes.columns + n * a.x.sizes.columns ≤ a.x.sizes.rows * a.x.sizes.columns)
turn c =
    let a = c.args in
    let once = c.at_once-step.ensures in
    let n : c.loop-i.i + c.min-n.result ≤ a.x.sizes.rows = omega (arith, c.min-n.ensures) in (
      record { some = omega (arith, c.min-n.ensures); few = omega (arith, c.min-n.ensures); room = λ h. once.room (omega (arith, c.min-n.ensures)) },
      n,
      omega (arith, mul-le-mul_right a.x.sizes.inner n),
      omega (arith, mul-le-mul_right a.x.sizes.columns n),
    )

pub slice_bounds-few_rows-end : goal.slice_bounds-few_rows-end
slice_bounds-few_rows-end c = let t = turn (goal.at.slice_bounds-few_rows-end c).After-min-n in omega arith

pub slice_bounds-few_rows-end-in-loop-i : goal.slice_bounds-few_rows-end-in-loop-i
slice_bounds-few_rows-end-in-loop-i c = let t = turn (goal.at.slice_bounds-few_rows-end-in-loop-i c).After-min-n in omega arith

-- the output after this turn's rows
made : (c : After-few_rows)
    → let a = c.args in
    let i = c.loop-i.i in
    let n = c.min-n.result in
    let out = c.loop-i.out in
    take (i * a.x.sizes.columns) out ++ (c.few_rows.new.out ++ drop (n * a.x.sizes.columns) (drop (i * a.x.sizes.columns) out))
    ≡ grid (element a.x.modulus a.x.sizes.inner a.x.sizes.columns a.x.a.now a.x.b.now) (i + n) a.x.sizes.columns ++ drop ((i + n) * a.x.sizes.columns) a.out.now
unfolding element
made c =
    let a = c.args in
    let loop = c.loop-i in
    let n = c.min-n.result in
    let here : min loop.i a.x.sizes.rows ≡ loop.i = omega arith in
    let before = rw here at loop.invariant.is in
    let rows = rw add-sub_cancel_left at c.few_rows.ensures in
    let is = rows
    ∙ ap (λ (k : ℕ). product_of (prime a.x.modulus) n a.x.sizes.inner k (take (n * a.x.sizes.inner) (drop (loop.i * a.x.sizes.inner) a.x.a.now)) a.x.b.now) loop.invariant.wide
    ∙ part_rows (prime a.x.modulus) a.x.sizes.inner a.x.sizes.columns a.x.a.now a.x.b.now loop.i n in
    rows_some (element a.x.modulus a.x.sizes.inner a.x.sizes.columns a.x.a.now a.x.b.now) a.out.now loop.out _ a.x.sizes.columns loop.i n before is

pub loop-i-preserved : goal.loop-i-preserved
loop-i-preserved c =
    let a = c.args in
    let next : c.loop-i.i + c.min-n.result ≡ min (c.loop-i.i + c.at_once-step.result) a.x.sizes.rows = omega (arith, c.min-n.ensures) in
    record { wide = omega arith; is = rw (add-sub_cancel_left, ← next) (made (goal.at.loop-i-preserved c).After-few_rows) }

-- all rows are made
pub returns : goal.returns
unfolding product_of element
returns c =
    let a = c.args in
    let all : min c.loop-i.i a.x.sizes.rows ≡ a.x.sizes.rows = omega arith in
    rows_all (element a.x.modulus a.x.sizes.inner a.x.sizes.columns a.x.a.now a.x.b.now) a.out.now c.loop-i.out a.x.sizes.rows a.x.sizes.columns c.requires.1
    (rw all at c.loop-i.invariant.is)

pub returns-2 : goal.returns-2
unfolding product_of element
returns-2 c =
    let a = c.args in
    let all : c.loop-i.i + c.min-n.result ≡ a.x.sizes.rows = omega (arith, c.min-n.ensures) in
    rw add-sub_cancel_left
    (rows_all (element a.x.modulus a.x.sizes.inner a.x.sizes.columns a.x.a.now a.x.b.now) a.out.now _ a.x.sizes.rows a.x.sizes.columns c.requires.1
    (rw all at (made (goal.at.returns-2 c).After-few_rows)))
