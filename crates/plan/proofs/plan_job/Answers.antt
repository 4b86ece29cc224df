-- `plan::plan_job` meets its contract.
use mathlib.Core.Path.{◌≡◌, sym, ap, ◌∙◌}
use Rattle.std.specs.Prelude.{Ok}
use Rattle.std.proofs.lemmas.Result.{err_from_is_err_and}
use Rattle.refusal.specs.Chain.{answered}
use Rattle.refusal.proofs.Answered.{is_done}
use Rattle.field.proofs.Moduli.{known, is_named}
use Rattle.plan.specs.Planning.{prime, modulus_of, range_tests, layout_of, needed_of}
use Rattle.plan.proofs.Ranges.{Ranged, ranged}
use Rattle.plan.proofs.Outcomes.{modulus_refused, range_refused, fit_refused, point_refused, accepted, layout_is, needed_is, plan_is}
use Rattle.plan.proofs.plan_job.Goals as goal
use Rattle.plan.proofs.plan_job.Goals.{In_ok-modulus, In_ok-check_ranges, In_ok-check_fit, After-prime_of-q}

pub returns-in_err-modulus : goal.returns-in_err-modulus
unfolding modulus_of
returns-in_err-modulus c =
    let p = err_from_is_err_and c.from_residual.result c.from_residual.ensures.1 in
    rw (p.1, p.2) (modulus_refused _ _ _ (sym c.in_err-modulus.was ∙ c.try_from.ensures))

-- the numbers are in range
in-range : (c : In_ok-check_ranges) → Ok tt ≡ answered (range_tests c.args.job) (tt {0})
in-range c = sym c.in_ok-check_ranges.was ∙ c.check_ranges.ensures

pub returns-in_err-check_ranges : goal.returns-in_err-check_ranges
unfolding modulus_of
returns-in_err-check_ranges c =
    let r = c.from_residual-in_err-check_ranges in
    let p = err_from_is_err_and r.result r.ensures.1 in
    rw (p.1, p.2) (range_refused _ _ _ (sym c.in_ok-modulus.was ∙ c.try_from.ensures) _ (sym c.in_err-check_ranges.was ∙ c.check_ranges.ensures))

pub parameters_of-g-requires : goal.parameters_of-g-requires
parameters_of-g-requires c = (is_done _ tt tt (in-range c)).0

-- the prime, the layout and K are the job's
prime-is : (c : After-prime_of-q) → c.prime_of-q.result ≡ prime c.args.job
unfolding prime
prime-is c =
    let is = is_named c.args.job.modulus _ (sym c.in_ok-modulus.was ∙ c.try_from.ensures) in
    sym (known c.args.job.modulus is c.prime_of-q.ensures).is

chosen : (c : After-prime_of-q) → c.choose-layout.result ≡ layout_of c.args.job
chosen c = layout_is c.args.job _ c.parameters_of-g.ensures _ c.choose-layout.ensures

enough : (c : After-prime_of-q) → c.needed-needed.result ≡ needed_of c.args.job
enough c = c.needed-needed.ensures ∙ needed_is c.args.job _ c.parameters_of-g.ensures _ c.choose-layout.ensures

pub check_fit-requires : goal.check_fit-requires
check_fit-requires c =
    record { job_value = (is_done _ tt tt (in-range (goal.at.check_fit-requires c).In_ok-check_ranges)).0; q_value = prime-is c; needed_value = enough c }

pub returns-in_err-check_fit : goal.returns-in_err-check_fit
unfolding modulus_of
returns-in_err-check_fit c =
    let r = c.from_residual-in_err-check_fit in
    let p = err_from_is_err_and r.result r.ensures.1 in
    rw (p.1, p.2)
    (fit_refused _ _ _ (sym c.in_ok-modulus.was ∙ c.try_from.ensures)
    (in-range (goal.at.returns-in_err-check_fit c).In_ok-check_ranges) _ (sym c.in_err-check_fit.was ∙ c.check_fit.ensures))

pub returns-in_err-check_points : goal.returns-in_err-check_points
unfolding modulus_of
returns-in_err-check_points c =
    let e = goal.at.returns-in_err-check_points c in
    let r = c.from_residual-in_err-check_points in
    let p = err_from_is_err_and r.result r.ensures.1 in
    rw (p.1, p.2)
    (point_refused _ _ _ (sym c.in_ok-modulus.was ∙ c.try_from.ensures) (in-range e.In_ok-check_ranges)
    (sym c.in_ok-check_fit.was ∙ c.check_fit.ensures) _
    (rw (← prime-is e.After-prime_of-q) (sym c.in_err-check_points.was ∙ c.check_points.ensures)))

-- the cuts are not 0
cuts : (c : In_ok-check_ranges) → Ranged c.args.job
cuts c = ranged c.args.job (is_done _ tt tt (in-range c)).0

pub nonzero_div-result : goal.nonzero_div-result
nonzero_div-result c = (cuts (goal.at.nonzero_div-result c).In_ok-check_ranges).m.low

pub nonzero_div-result-2 : goal.nonzero_div-result-2
nonzero_div-result-2 c = (cuts (goal.at.nonzero_div-result-2 c).In_ok-check_ranges).p.low

pub nonzero_div-result-3 : goal.nonzero_div-result-3
nonzero_div-result-3 c = (cuts (goal.at.nonzero_div-result-3 c).In_ok-check_ranges).n.low

pub returns : goal.returns
unfolding modulus_of
returns c =
    let e = goal.at.returns c in
    let f = e.After-prime_of-q in
    let modulus = sym c.in_ok-modulus.was ∙ c.try_from.ensures in
    ap Ok (plan_is c.args.job _ _ _ _ (is_done _ _ _ modulus).1 (chosen f) c.parameters_of-g.ensures (enough f))
    ∙ accepted _ _ _ modulus (in-range e.In_ok-check_ranges) (sym c.in_ok-check_fit.was ∙ c.check_fit.ensures)
    (rw (← prime-is f) (sym c.in_ok-check_points.was ∙ c.check_points.ensures))
