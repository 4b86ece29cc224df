-- `arrival::arrive` meets its contract.
use mathlib.Core.Path.{◌≡◌, sym, ap, ap₂, ◌∙◌}
use Prim.Native.Nat.{◌*◌, ◌≤◌}
use native.Mathlib.Omega.{arith}
use Rattle.std.specs.Prelude.{Err}
use Rattle.std.proofs.lemmas.Result.{err_from_is_err_and}
use Rattle.plan.specs.declared.Plan.{Plan}
use Rattle.plan.specs.Planning.{block_rows, block_columns, plan_of}
use Rattle.plan.proofs.Facts.{Fits, facts, planned_facts}
use Rattle.arrival.specs.Arriving.{answer_length, arrived}
use Rattle.arrival.proofs.Outcomes.{plan_refused, state_refused, kept_arrived, passed, exact}
use Rattle.arrival.proofs.arrive.Goals as goal
use Rattle.arrival.proofs.arrive.Goals.{In_ok-plan, In_err-check_state}

-- the plan is refused
pub returns-in_err-plan-clause-outcome : goal.returns-in_err-plan-clause-outcome
returns-in_err-plan-clause-outcome c =
    let p = err_from_is_err_and c.from_residual.result c.from_residual.ensures.1 in
    rw (p.1, p.2) (plan_refused _ _ _ _ _ _ _ c.in_err-plan.ensures)

pub returns-in_err-plan-clause-kept : goal.returns-in_err-plan-clause-kept
returns-in_err-plan-clause-kept c = kept_arrived _ _ _ _ _ _ _ (plan_refused _ _ _ _ _ _ _ c.in_err-plan.ensures)

-- it is not: its blocks are the job's
fits : (c : In_ok-plan) → Fits c.args.job
fits c = (facts _ _ (planned_facts _ _ (sym c.in_ok-plan.ensures)).0).fits

sizes : (c : In_ok-plan) → (c.in_ok-plan.plan.rows ≡ block_rows c.args.job) × (c.in_ok-plan.plan.columns ≡ block_columns c.args.job)
unfolding plan_of
sizes c =
    let is = (planned_facts _ _ (sym c.in_ok-plan.ensures)).1 in
    (ap (λ (p : Plan). p.rows) is, ap (λ (p : Plan). p.columns) is)

size_is : (c : In_ok-plan) → c.in_ok-plan.plan.rows * c.in_ok-plan.plan.columns ≡ answer_length c.args.job
unfolding answer_length
size_is c = ap₂ ◌*◌ (sizes c).0 (sizes c).1

small : (c : In_ok-plan) → c.in_ok-plan.plan.rows * c.in_ok-plan.plan.columns ≤ 4096
unfolding answer_length
small c = omega (arith, size_is c, (fits c).block_c)

pub overflow_mul-size : goal.overflow_mul-size
overflow_mul-size c = omega (arith, small (goal.at.overflow_mul-size c).In_ok-plan)

pub invariant_of-accepted : goal.invariant_of-accepted
invariant_of-accepted c =
    let e = (goal.at.invariant_of-accepted c).In_ok-plan in
    record { rows_are = (sizes e).0; columns_are = (sizes e).1; size_is = size_is e; small = small e; few = (fits e).hosts_high }

-- 21 or 13
unfit : (c : In_err-check_state)
    → Err c.in_err-check_state.field-0.0 ≡ arrived c.args.job c.args.points.now c.args.heard c.args.store.now c.args.message.now c.args.minute
unfit c = state_refused _ _ _ _ _ _ _ c.in_ok-plan.ensures _ c.in_err-check_state.ensures

pub returns-in_err-check_state-clause-outcome : goal.returns-in_err-check_state-clause-outcome
returns-in_err-check_state-clause-outcome c =
    let r = c.from_residual-in_err-check_state in
    let p = err_from_is_err_and r.result r.ensures.1 in
    rw (p.1, p.2) (unfit (goal.at.returns-in_err-check_state-clause-outcome c).In_err-check_state)

pub returns-in_err-check_state-clause-kept : goal.returns-in_err-check_state-clause-kept
returns-in_err-check_state-clause-kept c = kept_arrived _ _ _ _ _ _ _ (unfit (goal.at.returns-in_err-check_state-clause-kept c).In_err-check_state)

-- the message decides
pub take_message-requires : goal.take_message-requires
take_message-requires c = exact _ _ _ c.in_ok-check_state.ensures

pub returns-clause-outcome : goal.returns-clause-outcome
returns-clause-outcome c =
    c.take_message.ensures.outcome ∙ (passed _ _ _ _ _ _ _ c.in_ok-plan.ensures c.in_ok-check_state.ensures).0

pub returns-clause-kept : goal.returns-clause-kept
returns-clause-kept c =
    c.take_message.ensures.kept ∙ (passed _ _ _ _ _ _ _ c.in_ok-plan.ensures c.in_ok-check_state.ensures).1
