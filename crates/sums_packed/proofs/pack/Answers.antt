-- `sums_packed::pack` meets its contract.
use mathlib.Core.Path.{◌≡◌, ap, ap₂, ◌∙◌}
use mathlib.Core.List.{List, ◌++◌}
use Prim.Native.Nat.{ℕ, ◌+◌, ◌/◌, min}
use native.Mathlib.Omega.{arith}
use lib.ListN.{length, get_or, drop, set}
use lib.Seq.{get_or-take, get_or-drop}
use Rattle.algebra.specs.Lists.{tab}
use Rattle.algebra.proofs.Fronts.{front_none, front_more}
use Rattle.sums_packed.specs.Internal.{pair, packed}
use Rattle.sums_packed.proofs.pack.Invariants.{at}
use Rattle.sums_packed.proofs.pack.Goals as goal

pub loop-k-init : goal.loop-k-init
loop-k-init c = front_none _ c.args.out.now

pub loop-k-preserved : goal.loop-k-preserved
loop-k-preserved c =
    let a = c.args in
    let l = c.loop-k in
    let first : get_or c.split_at.result.0.now l.k 0 ≡ get_or a.rows.now l.k 0
    = ap (λ (xs : List ℕ). get_or xs l.k 0) c.split_at.ensures.front ∙ get_or-take (length a.rows.now / 2) a.rows.now l.k 0 (omega arith) in
    let second : get_or c.split_at.result.1.now l.k 0 ≡ get_or a.rows.now (length a.rows.now / 2 + l.k) 0
    = ap (λ (xs : List ℕ). get_or xs l.k 0) c.split_at.ensures.back ∙ get_or-drop (length a.rows.now / 2) a.rows.now l.k 0 in
    ap (set l.out l.k) (c.pair_of.ensures ∙ ap₂ pair first second) ∙ front_more (at a.rows.now) a.out.now l.out l.k (omega arith) l.invariant

pub returns : goal.returns
unfolding packed
returns c =
    let a = c.args in
    let all : c.loop-k.k ≡ min (length a.rows.now / 2) (length a.out.now) = omega arith in
    c.loop-k.invariant ∙ ap (λ (n : ℕ). tab (at a.rows.now) n ++ drop n a.out.now) all
