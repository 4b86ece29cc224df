-- `plan::check_points` meets its contract.
use mathlib.Core.Path.{◌≡◌, refl, sym, ap, ◌∙◌}
use mathlib.Core.Bool.{not}
use mathlib.Core.List.{List}
use Prim.Native.Nat.{ℕ, suc, ◌<◌}
use native.Mathlib.Omega.{arith}
use lib.ListN.{length}
use borrow.Author.Tests.{ne_eqb}
use Rattle.std.specs.Prelude.{Err}
use Rattle.refusal.specs.Numbers.{refusal_of, sheet}
use Rattle.refusal.specs.Chain.{first, answered}
use Rattle.refusal.proofs.Chains.{first_none, first_hit, first_miss}
use Rattle.refusal.proofs.Answered.{answered_hit, answered_done, answered_refused}
use Rattle.plan.specs.Planning.{point_tests_at, all_point_tests, point_tests}
use Rattle.plan.proofs.Points.{pass_point, stop_point, length_same}
use Rattle.plan.proofs.check_points.Goals as goal

pub returns-then-points-hosts : goal.returns-then-points-hosts
unfolding point_tests refusal_of sheet
returns-then-points-hosts c = sym (answered_hit _ 8 _ _ (ap not (ne_eqb _ _ c.if-points-hosts.true)))

pub loop-i-init : goal.loop-i-init
unfolding first all_point_tests
loop-i-init c = refl

-- the points up to one pass, and it is refused
stopped : (q hosts : ℕ) (points : List ℕ) (i n : ℕ) → length points ≡ hosts → i < length points → first (all_point_tests q points i) ≡ 0
    → first (point_tests_at q points i) ≡ suc n → Err (refusal_of (suc n)) ≡ answered (point_tests q hosts points) (tt {0})
stopped q hosts points i n e h pass f = sym (answered_refused _ tt n (length_same q points hosts e ∙ stop_point q points i (length points) n h pass f))

pub returns-then-x-q : goal.returns-then-x-q
unfolding point_tests_at refusal_of sheet
returns-then-x-q c = stopped _ _ _ _ 9 c.if-points-hosts.false (omega arith) c.loop-i.invariant (first_hit _ 10 _ c.if-x-q.true)

pub returns-then-stands_in : goal.returns-then-stands_in
unfolding point_tests_at refusal_of sheet
returns-then-stands_in c =
    stopped _ _ _ _ 10 c.if-points-hosts.false (omega arith) c.loop-i.invariant
    (first_miss _ 10 _ c.if-x-q.false ∙ first_hit _ 11 _ (sym c.stands_in.ensures ∙ c.if-stands_in.true))

pub loop-i-preserved : goal.loop-i-preserved
unfolding point_tests_at
loop-i-preserved c =
    pass_point _ _ _ c.loop-i.invariant
    (first_miss _ 10 _ c.if-x-q.false ∙ first_miss _ 11 _ (sym c.stands_in.ensures ∙ c.if-stands_in.false) ∙ first_none)

pub returns : goal.returns
returns c =
    let all : c.loop-i.i ≡ length c.args.points.now = omega arith in
    sym (answered_done _ tt (length_same c.args.q c.args.points.now _ c.if-points-hosts.false ∙ (rw all at c.loop-i.invariant)))
