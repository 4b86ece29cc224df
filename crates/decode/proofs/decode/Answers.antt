-- `decode::decode` meets its contract.
use mathlib.Core.Path.{◌≡◌, refl, sym, ◌∙◌}
use lib.ListN.{length}
use Rattle.std.proofs.lemmas.Result.{err_from_is_err_and}
use Rattle.refusal.proofs.Answered.{answered_done}
use Rattle.refusal.proofs.Chains.{unless_done}
use Rattle.decode.specs.Decoding.{chosen, table_after}
use Rattle.decode.proofs.Outcomes.{plan_refused, own_answered, room_length, limited, kept, cleared, lowest_chosen, as_many, within, roomy, decoded_is}
use Rattle.decode.proofs.decode.Goals as goal
use Rattle.decode.proofs.decode.Goals.{In_ok-plan, After-lowest_heard}

pub returns-in_err-plan : goal.returns-in_err-plan
returns-in_err-plan c =
    let a = c.args in
    let told = plan_refused a.job a.points.now a.heard a.store.now (length a.table.now) _ c.in_err-plan.ensures in
    let p = err_from_is_err_and c.from_residual.result c.from_residual.ensures.1 in
    record { number = rw (p.1, p.2) told; table = kept _ _ _ _ a.table.now _ told }

pub returns-in_err-table_refusal : goal.returns-in_err-table_refusal
returns-in_err-table_refusal c =
    let a = c.args in
    let r = c.from_residual-in_err-table_refusal in
    let own = own_answered a.job a.points.now a.heard a.store.now (length a.table.now) _ c.in_ok-plan.ensures in
    let told = c.in_err-table_refusal.ensures ∙ sym own in
    let p = err_from_is_err_and r.result r.ensures.1 in
    record { number = rw (p.1, p.2) told; table = kept _ _ _ _ a.table.now _ told }

pub table_refusal-requires : goal.table_refusal-requires
table_refusal-requires c = limited _ _ _ c.in_ok-plan.ensures

-- the indices are those of the chosen hosts
chosen-are : (c : After-lowest_heard) → c.lowest_heard.new.out ≡ chosen c.args.job c.args.heard
chosen-are c = lowest_chosen _ _ _ _ _ _ c.in_ok-plan.ensures c.in_ok-table_refusal.ensures _ c.lowest_heard.ensures

pub points_at-requires : goal.points_at-requires
points_at-requires c =
    let are = chosen-are (goal.at.points_at-requires c).After-lowest_heard in (
      within _ _ _ _ _ _ c.in_ok-plan.ensures c.in_ok-table_refusal.ensures _ are,
      room_length _ _ _ c.in_ok-plan.ensures ∙ sym (as_many _ _ _ _ _ _ c.in_ok-plan.ensures c.in_ok-table_refusal.ensures _ are),
    )

pub invariant_of-choice-clause-roomy : goal.invariant_of-choice-clause-roomy
invariant_of-choice-clause-roomy c =
    roomy _ _ _ _ _ _ c.in_ok-plan.ensures c.in_ok-table_refusal.ensures _ (chosen-are (goal.at.invariant_of-choice-clause-roomy c).After-lowest_heard) _ c.points_at.ensures

pub returns : goal.returns
unfolding table_after
returns c =
    let a = c.args in
    let clear = cleared _ _ _ _ _ _ c.in_ok-plan.ensures c.in_ok-table_refusal.ensures in
    record {
      number = sym (answered_done _ tt clear);
      table =
          c.decode_chosen.ensures
          ∙ decoded_is _ _ _ _ _ _ c.in_ok-plan.ensures c.in_ok-table_refusal.ensures _ (chosen-are (goal.at.returns c).After-lowest_heard) _ c.points_at.ensures a.table.now refl
          ∙ sym (unless_done _ _ _ clear);
    }
