-- `mukerihe_bank::mukerihe_element` meets its contract.
use mathlib.Core.Path.{◌≡◌, ap, ◌∙◌}
use Prim.Native.Nat.{ℕ}
use lib.IntN.{ℤ}
use lib.ListN.{get_or}
use mir.Facts.{to_z-of_z}
use Rattle.std.specs.Prelude.{Result, Ok, Err}
use Rattle.refusal.specs.declared.Refusal.{Refusal}
use Rattle.refusal.specs.Chain.{first, unless_refused}
use Rattle.field.specs.Modulus.{modulus}
use Rattle.field_signed.specs.Signed.{element, element_tests, element_outcome, element_told}
use Rattle.field_signed.proofs.Outcomes.{element_told_lem}
use Rattle.mukerihe_bank.proofs.Outcomes.{told_value}
use Rattle.mukerihe_bank.proofs.mukerihe_element.Goals as goal

-- what is told and left, whichever outcome it is
outcome-is : (n : ℕ) (value : ℤ) (was : ℕ) (r : Result ℕ Refusal) → r ≡ element_outcome n value
    → ((element_told r).number ≡ first (element_tests n value))
    × (get_or (element_told r).values 0 was ≡ unless_refused (element_tests n value) (element (modulus n) value) was)
outcome-is n value was r is = told_value _ _ _ (ap element_told is ∙ element_told_lem n value)

pub returns-in-Ok : goal.returns-in-Ok
unfolding element_told
returns-in-Ok c =
    let a = c.args in
    let o = outcome-is a.modulus a.value a.element.now (Ok c.in-Ok.found) (c.in-Ok.ensures ∙ ap (element_outcome a.modulus) (to_z-of_z c.ranges.value)) in
    record { number = o.0; element = o.1 }

pub returns-in-Err : goal.returns-in-Err
unfolding element_told
returns-in-Err c =
    let a = c.args in
    let o = outcome-is a.modulus a.value a.element.now (Err c.in-Err.refusal) (c.in-Err.ensures ∙ ap (element_outcome a.modulus) (to_z-of_z c.ranges.value)) in
    record { number = c.number.ensures ∙ o.0; element = o.1 }
