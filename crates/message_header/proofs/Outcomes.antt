-- What the tests of the fields and reading a header return, by the first test that holds.
--
--   answered_same          what a call returns, by another call's tests that tell the same number
--   refused_by             a refusal that is that of the first test that holds
--   fit_told, check_told   what the tests of the fields tell by what they return: fit, or refused
--   opened_told            and reading a header, where it is not refused
--   same_fields            two headers with the same fields
use mathlib.Core.Path.{◌≡◌, refl, sym, ap, ◌∙◌}
use mathlib.Core.Bool.{false, true≢false}
use mathlib.Core.List.{List}
use Prim.Native.Nat.{ℕ}
use Rattle.std.specs.Prelude.{Option, Some, None, Ok, Err}
use Rattle.refusal.specs.declared.Refusal.{Refusal}
use Rattle.refusal.specs.Numbers.{refusal_of}
use Rattle.refusal.specs.Chain.{Test, first, outcome, answered, refuse}
use Rattle.refusal.proofs.Chains.{outcome_refused}
use Rattle.refusal.proofs.Answered.{is_done, is_refused}
use Rattle.field.specs.declared.Modulus.{Modulus}
use Rattle.field.specs.Modulus.{no_modulus, named, modulus_in}
use Rattle.field.proofs.Moduli.{none_named}
use Rattle.message_header.specs.declared.Header.{Header}
use Rattle.message_header.specs.Header.{header_of, field_tests, header_tests, fields}
use Rattle.message_header.specs.Internal.{checked, opened}
use Rattle.message_header.proofs.Fields.{ranged, headed}

pub answered_same : {A : Type 0} (xs ys : List Test) (value : A) → first xs ≡ first ys → answered xs value ≡ answered ys value
unfolding answered
answered_same xs ys value e = ap (λ (n : ℕ). outcome n (Ok value) refuse) e

pub refused_by : {A : Type 0} (tests : List Test) (value : A) (r : Refusal) → (first tests ≡ 0 → ⊥) → r ≡ refusal_of (first tests)
    → Err r ≡ answered tests value
unfolding answered
refused_by tests value r ne is = ap Err is ∙ sym (outcome_refused (Ok value) refuse (first tests) ne)

-- a modulus number names its modulus
named_in : (n : ℕ) → no_modulus n ≡ false → named n ≡ Some (modulus_in (named n))
named_in n e = go (named n) refl
  where
    go : (x : Option Modulus) → named n ≡ x → x ≡ Some (modulus_in x)
    go (Some m) is = refl
    go None is = absurd (true≢false (sym (none_named n is) ∙ e))

module _ (h : Header) where
  pub fit_told : (m : Modulus) → Ok m ≡ checked h → (first (field_tests h) ≡ 0) × (named h.modulus ≡ Some m)
  unfolding checked
  fit_told m e =
      let told = is_done (field_tests h) (modulus_in (named h.modulus)) m e in
      (told.0, named_in h.modulus (ranged h told.0).known ∙ ap Some (sym told.1))

  pub check_told : (r : Refusal) → Err r ≡ checked h → (first (field_tests h) ≡ 0 → ⊥) × (r ≡ refusal_of (first (field_tests h)))
  unfolding checked
  check_told r e = is_refused (field_tests h) (modulus_in (named h.modulus)) r e

pub opened_told : (message : List ℕ) (h : Header) (m : Modulus) → Ok (h, m) ≡ opened message
    → (first (header_tests message) ≡ 0) × (h ≡ header_of message) × (named h.modulus ≡ Some m)
unfolding opened
opened_told message h m e =
    let here = header_of message in
    let told = is_done (header_tests message) (here, modulus_in (named here.modulus)) (h, m) e in
    let same : h ≡ here = ap (λ (x : Header × Modulus). x.0) told.1 in
    let modulus : m ≡ modulus_in (named here.modulus) = ap (λ (x : Header × Modulus). x.1) told.1 in (
      told.0,
      same,
      ap (λ (k : Header). named k.modulus) same ∙ named_in here.modulus (ranged here (headed message told.0).fields).known ∙ ap Some (sym modulus),
    )

pub same_fields : (h k : Header) → fields h ≡ fields k → h ≡ k
unfolding fields
same_fields h k e =
    let kind : h.kind ≡ k.kind = cc in
    let modulus : h.modulus ≡ k.modulus = cc in
    let host : h.host ≡ k.host = cc in
    let rows : h.rows ≡ k.rows = cc in
    let columns : h.columns ≡ k.columns = cc in
    let number : h.number ≡ k.number = cc in
    λ i. record { kind = kind i; modulus = modulus i; host = host i; rows = rows i; columns = columns i; number = number i }
