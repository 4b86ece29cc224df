-- `lister::plan_of` meets its contract.
use Rattle.std.proofs.Common.{◌≡◌, ◌∙◌, ◌≤◌, ◌<◌, ℕ, suc, min, take, ap, ap₂, ⊎_elim, arith}
use Rattle.algebra.specs.Lists.{tab}
use Rattle.algebra.proofs.Lists.{take_tab}
use Rattle.algebra.proofs.Orders.{le_or_lt}
use Rattle.plan.specs.Planning.{planned, table_job}
use Rattle.plan.proofs.Facts.{points_unseen}
use Rattle.lister.proofs.plan_of.Goals as goal

pub returns : goal.returns
unfolding table_job
returns c =
    let table = c.args.table in
    let made = c.plan_job.ensures ∙ ap₂ planned c.table_job.ensures (ap₂ take c.min-hosts.ensures c.all_points-points.ensures) in
    made
    ∙ ⊎_elim
    (λ (few : table.hosts ≤ 64).
    let n : min table.hosts 64 ≡ table.hosts = omega arith in
    ap (planned (table_job table)) (ap (λ (k : ℕ). take k (tab suc 64)) n ∙ take_tab suc table.hosts 64 few))
    (λ (many : 64 < table.hosts). points_unseen (table_job table) _ (tab suc table.hosts) many)
    (le_or_lt table.hosts 64)
