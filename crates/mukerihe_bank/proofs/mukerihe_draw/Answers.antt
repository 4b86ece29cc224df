-- `mukerihe_bank::mukerihe_draw` meets its contract.
use mathlib.Core.Path.{◌≡◌, ap, ◌∙◌}
use mathlib.Core.List.{List}
use Prim.Native.Nat.{ℕ}
use lib.ListN.{length, get_or}
use Rattle.std.specs.Prelude.{Result, Ok, Err}
use Rattle.refusal.specs.declared.Refusal.{Refusal}
use Rattle.refusal.specs.Chain.{first, unless_refused}
use Rattle.field.specs.Modulus.{modulus}
use Rattle.masks.specs.Drawing.{draw_tests, draw_outcome, told, used}
use Rattle.masks.proofs.Outcomes.{draw_told}
use Rattle.mukerihe_bank.proofs.Outcomes.{told_value}
use Rattle.mukerihe_bank.proofs.mukerihe_draw.Goals as goal

-- what is told and left, whichever outcome it is
outcome-is : (n : ℕ) (words : List ℕ) (room was : ℕ) (r : Result ℕ Refusal) → r ≡ draw_outcome n words room
    → ((told r).number ≡ first (draw_tests n words room))
    × (get_or (told r).values 0 was ≡ unless_refused (draw_tests n words room) (used (modulus n) room words) was)
outcome-is n words room was r is = told_value _ _ _ (ap told is ∙ draw_told n words room)

pub returns-in-Ok : goal.returns-in-Ok
returns-in-Ok c =
    let a = c.args in
    let o = outcome-is a.modulus a.words.now (length a.out.now) a.used.now (Ok c.in-Ok.count) c.in-Ok.ensures.outcome in
    record { number = o.0; masks = c.in-Ok.ensures.masks; used = o.1 }

pub returns-in-Err : goal.returns-in-Err
returns-in-Err c =
    let a = c.args in
    let o = outcome-is a.modulus a.words.now (length a.out.now) a.used.now (Err c.in-Err.refusal) c.in-Err.ensures.outcome in
    record { number = c.number.ensures ∙ o.0; masks = c.in-Err.ensures.masks; used = o.1 }
