-- `arrival_heard::lowest_heard` meets its contract.
use Rattle.std.proofs.Common.{◌≡◌, ◌∙◌, sym, arith}
use Rattle.arrival_heard.proofs.Lowest.{found_none, found_more, found_skip, found_full, found_all}
use Rattle.arrival_heard.proofs.lowest_heard.Goals as goal
use Rattle.arrival_heard.proofs.lowest_heard.Goals.{then-n-out+then-is_heard, else-n-out, else-n-out-via-then-n-out+else-is_heard, else-n-out-via-else-n-out}

pub loop-index-init : goal.loop-index-init
loop-index-init c = found_none c.args.heard c.args.out.now

pub loop-index-preserved : goal.loop-index-preserved
loop-index-preserved c =
    let a = c.args in
    let l = c.loop-index in
    elim c.if-n-out.branch [
      | then-n-out+then-is_heard w ↦
          rw (w.out-is, w.n-is) (found_more a.heard a.out.now l.out l.n l.index l.invariant (sym w.is_heard.ensures ∙ w.if-is_heard.true) (omega arith))
      | else-n-out w ↦
          rw (w.out-is, w.n-is)
          (elim w.else-n-out.branch [
            | else-n-out-via-then-n-out+else-is_heard v ↦ found_skip a.heard a.out.now l.out l.n l.index l.invariant (sym v.is_heard.ensures ∙ v.if-is_heard.false)
            | else-n-out-via-else-n-out v ↦ found_full a.heard a.out.now l.out l.n l.index l.invariant (omega arith)
          ])
    ]

pub returns : goal.returns
returns c =
    let l = c.loop-index in
    let all : l.index ≡ 64 = omega arith in
    found_all c.args.heard c.args.out.now l.out l.n (rw all at l.invariant)
