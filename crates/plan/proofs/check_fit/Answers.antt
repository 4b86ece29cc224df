-- `plan::check_fit` meets its contract.
use mathlib.Core.Path.{◌≡◌, sym, ◌∙◌}
use mathlib.Core.Bool.{false, ◌||◌}
use mathlib.Core.List.{[], ◌∷◌}
use lib.Dec.{leb, ltb}
use borrow.Author.Tests.{lt-ltb, le-ltb, lt-leb, le-leb}
use Rattle.refusal.specs.Numbers.{refusal_of, sheet}
use Rattle.refusal.specs.Chain.{answered}
use Rattle.refusal.proofs.Answered.{answered_hit, answered_miss, answered_none}
use Rattle.plan.specs.Planning.{block_rows, block_inner, block_columns, window_test, fit_tests}
use Rattle.plan.proofs.check_fit.Goals as goal
use Rattle.plan.proofs.check_fit.Goals.{After-outside, Else-job-needed}

pub returns-then-job : goal.returns-then-job
unfolding fit_tests refusal_of sheet
returns-then-job c = sym (answered_hit _ 4 _ _ c.if-job.true)

pub returns-then-over_block : goal.returns-then-over_block
unfolding fit_tests block_rows block_inner block_columns refusal_of sheet
returns-then-over_block c = sym (answered_miss _ 5 _ _ c.if-job.false ∙ answered_hit _ 5 _ _ (sym c.over_block.ensures ∙ c.if-over_block.true))

-- 5 and 6 do not hold
divided : (e : After-outside) → answered (fit_tests e.args.job) (tt {0})
    ≡ answered ((e.outside.result || leb e.args.q e.args.job.hosts, 7) ∷ (ltb e.args.job.hosts e.args.needed, 8) ∷ (window_test e.args.job, 29) ∷ []) tt
unfolding fit_tests block_rows block_inner block_columns
divided e =
    answered_miss _ 5 _ _ e.if-job.false
    ∙ answered_miss _ 6 _ _ (sym e.over_block.ensures ∙ e.if-over_block.false)
    ∙ rw (e.outside.ensures, e.requires.q_value, e.requires.needed_value)

pub returns-then-outside-q : goal.returns-then-outside-q
unfolding refusal_of sheet
returns-then-outside-q c = sym (divided (goal.at.returns-then-outside-q c).After-outside ∙ answered_hit _ 6 _ _ c.if-outside-q.true)

-- and 7 does not
passed : (e : After-outside) → (e.outside.result || leb e.args.q e.args.job.hosts) ≡ false
    → answered (fit_tests e.args.job) (tt {0}) ≡ answered ((ltb e.args.job.hosts e.args.needed, 8) ∷ (window_test e.args.job, 29) ∷ []) tt
passed e fits = divided e ∙ answered_miss _ 7 _ _ fits

pub returns-then-job-needed : goal.returns-then-job-needed
unfolding refusal_of sheet
returns-then-job-needed c =
    sym (passed (goal.at.returns-then-job-needed c).After-outside c.if-outside-q.false ∙ answered_hit _ 7 _ _ (lt-ltb _ _ c.if-job-needed.true))

-- and 8 does not
enough : (e : Else-job-needed) → answered (fit_tests e.args.job) (tt {0}) ≡ answered ((window_test e.args.job, 29) ∷ []) tt
enough e = passed e.before.before.before.before e.if-outside-q.false ∙ answered_miss _ 8 _ _ (le-ltb _ _ e.if-job-needed.false)

pub returns-then-job-2 : goal.returns-then-job-2
unfolding window_test refusal_of sheet
returns-then-job-2 c = sym (enough c.before.before ∙ answered_hit _ 28 _ _ (le-leb _ _ c.if-job-2.true))

pub returns : goal.returns
unfolding window_test
returns c = sym (enough c.before.before ∙ answered_miss _ 29 _ _ (lt-leb _ _ c.if-job-2.false) ∙ answered_none _)
