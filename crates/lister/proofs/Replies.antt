-- What is printed, by cases.
--
--   listed             a text that was written at the front of a listing's buffer is what the lister is to print
--   malformed          the input is no line of ten numbers
--   replied            it is, and its table is planned or refused
--   prints, unseen     what is printed for every input, in no window: the statements of specs/Prints.antt
use mathlib.Core.Path.{◌≡◌, sym, ap, ◌∙◌}
use mathlib.Core.Bool.{Bool, true, false, cond}
use mathlib.Core.List.{List, ◌++◌}
use Prim.Native.Nat.{ℕ, suc, ◌≤◌}
use native.Mathlib.Omega.{arith}
use lib.ListN.{length, drop}
use Rattle.algebra.specs.Lists.{tab}
use Rattle.std.proofs.Common.{Result}
use Rattle.refusal.specs.declared.Refusal.{Refusal}
use Rattle.plan.specs.declared.Plan.{Plan}
use Rattle.plan.specs.Planning.{planned, table_for, table_job, unwindowed}
use Rattle.plan.proofs.Windows.{window_unseen, table_untold}
use Rattle.lister_line.specs.declared.Line.{Line}
use Rattle.lister_line.specs.Line.{line_of}
use Rattle.lister_line.proofs.Lines.{line_back, lines}
use Rattle.lister.specs.Listing.{refused_text, line_table, reply_text, reply, listing, listing_room}
use Rattle.lister.specs.Prints.{Prints, Unseen}
use Rattle.lister.specs.Internal.{Lists}
use Rattle.lister.proofs.Room.{room}

pub listed : {out text exit : List ℕ} {end : ℕ} (input : List ℕ) → text ≡ listing input → Lists out text exit end
    → (end ≤ length exit) × ((end ≡ length (listing input)) × (exit ≡ listing input ++ drop (length (listing input)) out))
listed {out} {text} {exit} {end} input is w =
    let fit : length text ≤ listing_room = omega (arith, ap length is, room input) in
    (w.within, (w.long fit ∙ ap length is, rw is at (w.is fit)))

pub malformed : (input : List ℕ) → (line_of input).ok ≡ false → refused_text 26 ≡ listing input
unfolding listing
malformed input e = sym (ap (λ (b : Bool). cond b (reply (line_table (line_of input).numbers)) (refused_text 26)) e)

pub replied : (input : List ℕ) {outcome : Result Plan Refusal} → (line_of input).ok ≡ true
    → outcome ≡ planned (table_job (line_table (line_of input).numbers)) (tab suc (line_table (line_of input).numbers).hosts)
    → reply_text (line_table (line_of input).numbers).hosts outcome ≡ listing input
unfolding listing reply
replied input e p =
    ap (reply_text (line_table (line_of input).numbers).hosts) p
    ∙ sym (ap (λ (b : Bool). cond b (reply (line_table (line_of input).numbers)) (refused_text 26)) e)

pub prints : Prints
unfolding listing
prints = record {
  replies = λ input ns l. ap (λ (k : Line). cond k.ok (reply (line_table k.numbers)) (refused_text 26)) (line_back l);
  no_line = λ input none. sym (malformed input ((lines.refused input).1 none));
  room = room;
}

pub unseen : Unseen
unfolding reply table_for unwindowed
unseen = record {
  planning = window_unseen;
  printing = λ job e. sym (ap (reply_text job.hosts) (window_unseen job (tab suc job.hosts) e));
  untold = table_untold;
}
