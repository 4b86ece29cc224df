-- `decode::table_refusal` meets its contract.
use mathlib.Core.Path.{sym, ◌∙◌}
use Prim.Native.Nat.{◌*◌}
use native.Mathlib.Nat.{mul-le-mul}
use native.Mathlib.Omega.{arith}
use lib.ListN.{length}
use borrow.Author.Tests.{lt-ltb}
use Rattle.algebra.proofs.Tests.{or_left, equal}
use Rattle.refusal.specs.Chain.{differs}
use Rattle.refusal.specs.Numbers.{refusal_of, sheet}
use Rattle.refusal.proofs.Answered.{answered_hit, answered_miss}
use Rattle.decode.specs.Decoding.{table_tests}
use Rattle.decode.proofs.Answering.{small, own_tests}
use Rattle.decode.proofs.table_refusal.Goals as goal

pub returns-then-some_above : goal.returns-then-some_above
unfolding table_tests refusal_of sheet
returns-then-some_above c = sym (answered_hit _ 20 _ _ (sym c.some_above.ensures ∙ c.if-some_above.true))

pub overflow_mul-job : goal.overflow_mul-job
overflow_mul-job c = omega (arith, mul-le-mul c.requires.hosts (small _ _ c.requires))

pub returns-then-heard-plan : goal.returns-then-heard-plan
unfolding refusal_of sheet
returns-then-heard-plan c =
    let a = c.args in
    rw (own_tests a.job a.plan c.requires a.heard a.store.now a.room)
    (sym (answered_miss _ 21 _ _ (sym c.some_above.ensures ∙ c.if-some_above.false)
    ∙ answered_miss _ 13 _ _ c.if-store-job.false
    ∙ answered_hit _ 23 _ _ (lt-ltb _ _ c.if-heard-plan.true)))

pub heard_below-requires : goal.heard_below-requires
heard_below-requires c =
    let a = c.args in
    let store = differs (length a.store.now) (a.job.hosts * (a.plan.rows * a.plan.columns)) in
    (small _ _ c.requires, c.requires.hosts, equal _ _ (or_left store (differs a.room (a.job.t * a.job.r)) c.if-store-job.false))
