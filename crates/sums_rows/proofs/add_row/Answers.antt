-- `sums_rows::add_row` meets its contract.
use Rattle.std.proofs.Common.{◌≡◌, ℕ, ◌+◌, ◌*◌, ◌%◌, ◌^◌, min, List, length, get_or, set, ap, ◌∙◌, arith}
use lib.ListN.{get_or-eq_default}
use Rattle.algebra.proofs.Fronts.{front_none, front_more, front_old, front_rest}
use Rattle.sums_rows.specs.Internal.{plus}
use Rattle.sums_rows.proofs.add_row.Invariants.{term}
use Rattle.sums_rows.proofs.add_row.Goals as goal

pub loop-j-init : goal.loop-j-init
loop-j-init c = record { is = front_none _ c.args.sums.now; fits = λ i. (c.type_inv.sums i).fits }

pub loop-j-preserved : goal.loop-j-preserved
loop-j-preserved c =
    let a = c.args in
    let l = c.loop-j in
    let f = term a.sums.now a.weight a.row.now in
    let old : get_or l.sums l.j 0 ≡ get_or a.sums.now l.j 0
    = ap (λ (xs : List ℕ). get_or xs l.j 0) l.invariant.is ∙ front_old f a.sums.now l.j l.j (omega arith) in
    let value : (get_or l.sums l.j 0 + c.wide_product.result) % 2 ^ 64 ≡ f l.j = omega (arith, c.wide_product.ensures) in
    record { is = ap (set l.sums l.j) value ∙ front_more f a.sums.now l.sums l.j (omega arith) l.invariant.is; fits = l.invariant.fits }

pub returns : goal.returns
unfolding plus
returns c =
    let a = c.args in
    let l = c.loop-j in
    let f = term a.sums.now a.weight a.row.now in
    let n : l.j ≡ min (length a.sums.now) (length a.row.now) = omega arith in
    l.invariant.is
    ∙ front_rest f a.sums.now l.j (omega arith) (λ i past within.
    let none : get_or a.row.now i 0 ≡ 0 = get_or-eq_default a.row.now 0 (omega arith) in
    let product : a.weight * get_or a.row.now i 0 ≡ a.weight * 0 = ap (λ (x : ℕ). a.weight * x) none in
    let kept : get_or a.sums.now i 0 ≡ f i = omega (arith, l.invariant.fits i) in
    kept)
