-- What the lister prints, for every input (01, "The plan lister", and "What is turned down", Lister; 02, U7).
--
--   Prints == a line of ten numbers gets the reply to its table, any other input the refusal 26, and every text that is printed
--             has room
--   Unseen == what is planned and printed for a table is what planning answers in every window that opens before it closes, and
--             29 is never told
use Rattle.std.specs.Prelude.{◌≡◌, false, List, ℕ, suc, ◌≤◌, length, Err}
use Rattle.algebra.specs.Lists.{tab}
use Rattle.plan.specs.declared.Job.{Job}
use Rattle.plan.specs.declared.Table.{Table}
use Rattle.refusal.specs.declared.Refusal.{Refusal}
use Rattle.plan.specs.Planning.{window_test, planned, table_for, table_job, unwindowed}
use Rattle.lister_line.specs.Line.{IsLine}
use Rattle.lister.specs.Listing.{refused_text, line_table, reply_text, reply, listing, listing_room}

pub record Prints : Type 0 where
  pub replies : (input ns : List ℕ) → IsLine input ns → listing input ≡ reply (line_table ns)
  -- "26, before all others: input is not ten numbers .."
  pub no_line : (input : List ℕ) → ((ns : List ℕ) → IsLine input ns → ⊥) → listing input ≡ refused_text 26
  pub room : (input : List ℕ) → length (listing input) ≤ listing_room

-- "the lister knows no window" (02, U7)
pub record Unseen : Type 0 where
  pub planning : (job : Job) (points : List ℕ) → window_test job ≡ false → planned job points ≡ planned (unwindowed job) points
  pub printing : (job : Job) → window_test job ≡ false
      → reply (table_for job) ≡ reply_text job.hosts (planned job (tab suc job.hosts))
  pub untold : (table : Table) (points : List ℕ) → planned (table_job table) points ≡ Err Refusal.Window → ⊥
