-- `lister_line::read_line` meets its contract.
use Rattle.std.proofs.Common.{◌≡◌, ◌∙◌, ℕ, add-one, refl, sym, ap, get_or, take}
use lib.Seq.{take_all}
use Rattle.lister_line.specs.declared.Progress.{Progress}
use Rattle.lister_line.specs.Internal.{nothing, run, step}
use Rattle.lister_line.proofs.Steps.{run_more, line_is}
use Rattle.lister_line.proofs.read_line.Goals as goal
use Rattle.lister_line.proofs.read_line.Goals.{After-loop-byte}

pub loop-byte-init : goal.loop-byte-init
unfolding run nothing
loop-byte-init c = refl

pub loop-byte-preserved : goal.loop-byte-preserved
loop-byte-preserved c =
    let input = c.args.input.now in
    let l = c.loop-byte in
    c.read_byte-p.ensures
    ∙ ap (λ (p : Progress). step p (get_or input l.byte-index 0)) l.invariant
    ∙ sym (run_more nothing input l.byte-index c.loop-byte-test.true)
    ∙ ap (λ (k : ℕ). run nothing (take k input)) (sym (add-one l.byte-index))

-- the progress over the whole input
whole : (c : After-loop-byte) → c.loop-byte.p ≡ run nothing c.args.input.now
whole c = c.loop-byte.invariant ∙ ap (run nothing) (take_all c.loop-byte.byte-index c.args.input.now c.loop-byte-test.false)

pub returns-then-p : goal.returns-then-p
returns-then-p c = line_is _ c.loop-byte.p _ (whole (goal.at.returns-then-p c).After-loop-byte) (rw c.if-p.true)

pub returns-else-p : goal.returns-else-p
returns-else-p c = line_is _ c.loop-byte.p _ (whole (goal.at.returns-else-p c).After-loop-byte) (rw c.if-p.false)
