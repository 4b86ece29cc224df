-- `share::share` meets its contract.
use mathlib.Core.Path.{◌≡◌, sym, ◌∙◌}
use mathlib.Core.Bool.{false}
use native.Mathlib.Omega.{arith}
use Rattle.std.proofs.lemmas.Result.{err_from_is_err_and}
use Rattle.refusal.specs.Chain.{first, outside}
use Rattle.refusal.proofs.Answered.{is_done}
use Rattle.refusal.proofs.Chains.{inside_low, inside_high}
use Rattle.plan.specs.Planning.{plan_of, plan_tests, planned}
use Rattle.plan.proofs.Facts.{facts}
use Rattle.share_side.proofs.Sides.{plan_side_lem, side_small}
use Rattle.share.specs.Sharing.{point}
use Rattle.share.proofs.Outcomes.{kept, plan_refused, host_refused, shared}
use Rattle.share.proofs.share.Goals as goal
use Rattle.share.proofs.share.Goals.{In_ok-plan, Else-outside}

pub returns-in_err-plan : goal.returns-in_err-plan
returns-in_err-plan c =
    let a = c.args in
    let told = plan_refused a.matrix a.job a.points.now a.host a.xs.now a.masks.now a.out.now _ c.in_err-plan.ensures in
    let p = err_from_is_err_and c.from_residual.result c.from_residual.ensures.1 in
    record { number = rw (p.1, p.2) told; block = kept a.matrix a.job a.points.now a.host a.xs.now a.masks.now a.out.now _ told }

-- planning accepts
accepted : (c : In_ok-plan) → (first (plan_tests c.args.job c.args.points.now) ≡ 0) × (c.in_ok-plan.plan ≡ plan_of c.args.job)
unfolding planned
accepted c = is_done (plan_tests c.args.job c.args.points.now) (plan_of c.args.job) _ c.in_ok-plan.ensures

pub returns-then-outside : goal.returns-then-outside
returns-then-outside c =
    let a = c.args in
    let told = host_refused a.matrix a.job a.points.now a.host a.xs.now a.masks.now a.out.now (accepted (goal.at.returns-then-outside c).In_ok-plan).0 (sym c.outside.ensures ∙ c.if-outside.true) in
    record { number = told; block = kept a.matrix a.job a.points.now a.host a.xs.now a.masks.now a.out.now _ told }

-- the host is one of the job's
inside : (c : Else-outside) → outside 1 c.args.job.hosts c.args.host ≡ false
inside c = sym c.outside.ensures ∙ c.if-outside.false

pub overflow_sub-index : goal.overflow_sub-index
overflow_sub-index c = inside_low 1 _ _ (inside c)

pub bounds-points-index : goal.bounds-points-index
bounds-points-index c =
    let e = goal.at.bounds-points-index c in
    let within = inside (e.Else-outside) in
    let f = facts c.args.job c.args.points.now (accepted e.In_ok-plan).0 in
    omega (arith, inside_low 1 _ _ within, inside_high 1 _ _ within, f.points_length)

pub share_planned-requires : goal.share_planned-requires
share_planned-requires c =
    let a = c.args in
    let is = accepted (goal.at.share_planned-requires c).In_ok-plan in
    rw (is.1, plan_side_lem) (side_small a.matrix a.job (facts a.job a.points.now is.0).fits)

pub returns : goal.returns
unfolding point
returns c =
    let a = c.args in
    let e = goal.at.returns c in
    let is = accepted e.In_ok-plan in
    let all = shared a.matrix a.job a.points.now a.host a.xs.now a.masks.now a.out.now is.0 (inside e.Else-outside) _ is.1 _ _ c.share_planned.ensures.number c.share_planned.ensures.block in
    record { number = all.0; block = all.1 }
