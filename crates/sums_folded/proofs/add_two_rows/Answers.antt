-- `sums_folded::add_two_rows` meets its contract.
use Rattle.std.proofs.Common.{◌≡◌, ℕ, ◌+◌, ◌*◌, ◌%◌, ◌^◌, List, ◌++◌, length, get_or, drop, set, ap, ◌∙◌, ap₂, arith, rules}
use Rattle.algebra.specs.Lists.{tab}
use Rattle.algebra.proofs.Fronts.{front_none, front_more, front_old, front_all}
use Rattle.sums_folded.specs.Internal.{folded, paired_two}
use Rattle.sums_folded.proofs.add_two_rows.Invariants.{terms}
use Rattle.sums_folded.proofs.add_two_rows.Goals as goal

pub loop-j-init : goal.loop-j-init
loop-j-init c = front_none _ c.args.sums.now

pub loop-j-preserved : goal.loop-j-preserved
loop-j-preserved c =
    let a = c.args in
    let l = c.loop-j in
    let f = terms a.sums.now a.weight a.row.now a.second a.next.now in
    let old : get_or l.sums l.j 0 ≡ get_or a.sums.now l.j 0
    = ap (λ (xs : List ℕ). get_or xs l.j 0) l.invariant ∙ front_old f a.sums.now l.j l.j (omega arith) in
    let x : c.unwrap_or-x.result ≡ get_or a.row.now l.j 0 = search rules in
    let y : c.unwrap_or-y.result ≡ get_or a.next.now l.j 0 = search rules in
    let term = c.pair_term.ensures ∙ ap₂ (λ (x y : ℕ). folded (a.weight * x) (a.second * y)) x y in
    let value : (get_or l.sums l.j 0 + c.pair_term.result) % 2 ^ 64 ≡ f l.j = omega (arith, term, old) in
    ap (set l.sums l.j) value ∙ front_more f a.sums.now l.sums l.j (omega arith) l.invariant

pub returns : goal.returns
unfolding paired_two
returns c =
    let a = c.args in
    let f = terms a.sums.now a.weight a.row.now a.second a.next.now in
    let all : c.loop-j.j ≡ length a.sums.now = omega arith in
    c.loop-j.invariant
    ∙ ap (λ (k : ℕ). tab f k ++ drop k a.sums.now) all
    ∙ front_all f a.sums.now (length a.sums.now) (omega arith)
