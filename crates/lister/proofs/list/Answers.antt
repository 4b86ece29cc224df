-- `lister::list` meets its contract.
use Rattle.std.proofs.Common.{◌≡◌, ◌∙◌, Result, suc, sym, ap}
use borrow.Author.Tests.{not-true, not-false}
use Rattle.algebra.specs.Lists.{tab}
use Rattle.refusal.specs.declared.Refusal.{Refusal}
use Rattle.plan.specs.declared.Table.{Table}
use Rattle.plan.specs.declared.Plan.{Plan}
use Rattle.plan.specs.Planning.{planned, table_job}
use Rattle.lister_line.specs.declared.Line.{Line}
use Rattle.lister.specs.Listing.{line_table, reply_text, listing}
use Rattle.lister.proofs.Replies.{listed, malformed, replied}
use Rattle.lister.proofs.list.Goals as goal
use Rattle.lister.proofs.list.Goals.{After-plan_of}

pub returns-then-not-line : goal.returns-then-not-line
returns-then-not-line c =
    let not-ok = ap (λ (l : Line). l.ok) (sym c.read_line-line.ensures) ∙ not-true _ c.if-not-line.true in
    let all = listed c.args.input.now (malformed c.args.input.now not-ok) c.put_refused.ensures in
    record { room = all.0; length = all.1.0; text = all.1.1 }

-- the text of what planning returns is what is printed
reply_is : (c : After-plan_of) {outcome : Result Plan Refusal} → c.plan_of.result ≡ outcome
    → reply_text c.line_table-table.result.hosts outcome ≡ listing c.args.input.now
reply_is c {outcome} is =
    let input = c.args.input.now in
    let line = c.read_line-line in
    let ok = ap (λ (l : Line). l.ok) (sym line.ensures) ∙ not-false _ c.if-not-line.false in
    let table_is = c.line_table-table.ensures ∙ ap (λ (l : Line). line_table l.numbers) line.ensures in
    ap (λ (t : Table). reply_text t.hosts outcome) table_is
    ∙ replied input ok (sym is ∙ c.plan_of.ensures ∙ ap (λ (t : Table). planned (table_job t) (tab suc t.hosts)) table_is)

pub returns-in-Ok : goal.returns-in-Ok
unfolding reply_text
returns-in-Ok c =
    let all = listed c.args.input.now (reply_is (goal.at.returns-in-Ok c).After-plan_of c.in-Ok.is) c.list_plan.ensures in
    record { room = all.0; length = all.1.0; text = all.1.1 }

pub returns-in-Err : goal.returns-in-Err
unfolding reply_text
returns-in-Err c =
    let all = listed c.args.input.now (reply_is (goal.at.returns-in-Err c).After-plan_of c.in-Err.is) c.put_refused-in-Err.ensures in
    record { room = all.0; length = all.1.0; text = all.1.1 }
