-- `mukerihe_bank::mukerihe_signed` meets its contract.
use mathlib.Core.Path.{◌≡◌, ap, ◌∙◌}
use Prim.Native.Nat.{ℕ}
use lib.IntN.{ℤ}
use lib.ListN.{get_or}
use mir.Syntax.{w64}
use mir.Val.{to_z, of_z}
use borrow.Author.Rules.{rules}
use Rattle.std.specs.Prelude.{Result, Ok, Err}
use Rattle.refusal.specs.declared.Refusal.{Refusal}
use Rattle.refusal.specs.Chain.{first, unless_refused}
use Rattle.field.specs.Modulus.{modulus}
use Rattle.field_signed.specs.Signed.{signed, signed_tests, signed_outcome, signed_told}
use Rattle.field_signed.proofs.Outcomes.{signed_told_lem}
use Rattle.mukerihe_bank.proofs.Outcomes.{told_value}
use Rattle.mukerihe_bank.proofs.mukerihe_signed.Goals as goal
use Rattle.mukerihe_bank.proofs.mukerihe_signed.Goals.{In-Ok}

-- what is told and left, whichever outcome it is
outcome-is : (n v : ℕ) (was : ℤ) (r : Result ℤ Refusal) → r ≡ signed_outcome n v
    → ((signed_told r).number ≡ first (signed_tests n v))
    × (get_or (signed_told r).values 0 was ≡ unless_refused (signed_tests n v) (signed (modulus n) v) was)
outcome-is n v was r is = told_value _ _ _ (ap signed_told is ∙ signed_told_lem n v)

-- the value is held as it was read
held : (c : In-Ok) → to_z w64 (of_z w64 c.in-Ok.read) ≡ c.in-Ok.read
held c = search rules

pub returns-in-Ok : goal.returns-in-Ok
unfolding signed_told
returns-in-Ok c =
    let o = outcome-is c.args.modulus c.args.element c.args.value.now (Ok c.in-Ok.read) c.in-Ok.ensures in
    record { number = o.0; value = held c ∙ o.1 }

pub returns-in-Err : goal.returns-in-Err
unfolding signed_told
returns-in-Err c =
    let o = outcome-is c.args.modulus c.args.element c.args.value.now (Err c.in-Err.refusal) c.in-Err.ensures in
    record { number = c.number.ensures ∙ o.0; value = o.1 }
