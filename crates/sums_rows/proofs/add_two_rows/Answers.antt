-- `sums_rows::add_two_rows` meets its contract.
use Rattle.std.proofs.Common.{◌≡◌, ℕ, ◌+◌, ◌%◌, ◌^◌, List, ◌++◌, length, get_or, drop, set, ap, ◌∙◌, arith}
use Rattle.algebra.specs.Lists.{tab}
use Rattle.algebra.proofs.Fronts.{front_none, front_more, front_old, front_all}
use Rattle.sums_rows.proofs.Steps.{plus_twice}
use Rattle.sums_rows.proofs.add_two_rows.Invariants.{terms}
use Rattle.sums_rows.proofs.add_two_rows.Goals as goal

pub loop-j-init : goal.loop-j-init
loop-j-init c = front_none _ c.args.sums.now

pub loop-j-preserved : goal.loop-j-preserved
loop-j-preserved c =
    let a = c.args in
    let l = c.loop-j in
    let f = terms a.sums.now a.weight a.row.now a.second a.next.now in
    let old : get_or l.sums l.j 0 ≡ get_or a.sums.now l.j 0
    = ap (λ (xs : List ℕ). get_or xs l.j 0) l.invariant ∙ front_old f a.sums.now l.j l.j (omega arith) in
    let value : ((get_or l.sums l.j 0 + c.wide_product.result) % 2 ^ 64 + c.wide_product-in-loop-j.result) % 2 ^ 64 ≡ f l.j
    = omega (arith, c.wide_product.ensures, c.wide_product-in-loop-j.ensures) in
    ap (set l.sums l.j) value ∙ front_more f a.sums.now l.sums l.j (omega arith) l.invariant

pub returns : goal.returns
returns c =
    let a = c.args in
    let f = terms a.sums.now a.weight a.row.now a.second a.next.now in
    let all : c.loop-j.j ≡ length a.sums.now = omega arith in
    c.loop-j.invariant
    ∙ ap (λ (k : ℕ). tab f k ++ drop k a.sums.now) all
    ∙ front_all f a.sums.now (length a.sums.now) (omega arith)
    ∙ plus_twice a.sums.now a.weight a.row.now a.second a.next.now
