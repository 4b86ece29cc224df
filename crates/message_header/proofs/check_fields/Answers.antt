-- `message_header::check_fields` meets its contract.
use mathlib.Core.Path.{◌≡◌, sym, ◌∙◌}
use mathlib.Core.Bool.{◌||◌}
use mathlib.Core.List.{List, [], ◌∷◌, ◌++◌}
use lib.Dec.{ltb}
use Rattle.std.specs.Prelude.{Ok}
use Rattle.std.proofs.lemmas.Result.{err_from_is_err_and}
use Rattle.refusal.specs.Numbers.{refusal_of, sheet}
use Rattle.refusal.specs.Chain.{Test, first, outcome, answered, outside}
use Rattle.refusal.specs.Limits.{most_elements}
use Rattle.refusal.proofs.Answered.{refused_on, passed_on}
use Rattle.field.specs.declared.Modulus.{Modulus}
use Rattle.field.specs.Modulus.{no_modulus, named, modulus_in}
use Rattle.refusal.proofs.Chains.{numbered}
use Rattle.refusal.proofs.Answered.{is_done}
use Rattle.message_header.specs.declared.Header.{Header}
use Rattle.message_header.specs.declared.Kind.{Kind}
use Rattle.message_header.specs.Header.{element_count, field_tests}
use Rattle.message_header.specs.Internal.{kind_of, checked}
use Rattle.message_header.proofs.check_fields.Goals as goal

module _ (h : Header) where
  abbrev kind : List Test
  kind = (outside 1 3 h.kind, 16) ∷ []

  abbrev number : List Test
  number = (no_modulus h.modulus, 1) ∷ []

  -- the tests after those of the kind and of the modulus number
  abbrev rest : List Test
  rest =
      (outside 1 64 h.host, 12)
      ∷ (outside 1 16384 h.rows || outside 1 16384 h.columns, 2)
      ∷ (ltb most_elements (element_count h), 6) ∷ []

  module _ (k : Kind) (is-kind : Ok k ≡ answered kind (kind_of h.kind)) where
    past_kind : checked h ≡ answered (number ++ rest) (modulus_in (named h.modulus))
    unfolding checked field_tests numbered refusal_of sheet
    past_kind = passed_on kind (number ++ rest) (kind_of h.kind) (modulus_in (named h.modulus)) k tt is-kind

    past_modulus : (m : Modulus) → Ok m ≡ answered number (modulus_in (named h.modulus)) → checked h ≡ answered rest m
    unfolding numbered refusal_of sheet
    past_modulus m is =
        rw (is_done number (modulus_in (named h.modulus)) m is).1
        (past_kind ∙ passed_on number rest (modulus_in (named h.modulus)) (modulus_in (named h.modulus)) m tt is)

pub returns-in_err-try_from : goal.returns-in_err-try_from
unfolding checked field_tests
returns-in_err-try_from c =
    let p = err_from_is_err_and c.from_residual.result c.from_residual.ensures.1 in
    rw (p.1, p.2) (refused_on _ _ _ _ _ c.in_err-try_from.ensures)

pub returns-in_err-modulus : goal.returns-in_err-modulus
returns-in_err-modulus c =
    let p = err_from_is_err_and c.from_residual-in_err-modulus.result c.from_residual-in_err-modulus.ensures.1 in
    rw (p.1, p.2) (refused_on _ _ _ _ _ c.in_err-modulus.ensures ∙ sym (past_kind c.args.h _ c.in_ok-try_from.ensures))

pub returns-then-outside : goal.returns-then-outside
unfolding first outcome answered refusal_of sheet
returns-then-outside c =
    rw (past_modulus c.args.h _ c.in_ok-try_from.ensures _ c.in_ok-modulus.ensures, ← c.outside.ensures, c.if-outside.true)

pub returns-then-outside-2 : goal.returns-then-outside-2
unfolding first outcome answered refusal_of sheet
returns-then-outside-2 c =
    rw (past_modulus c.args.h _ c.in_ok-try_from.ensures _ c.in_ok-modulus.ensures, ← c.outside.ensures, c.if-outside.false)
    (rw (← c.outside-2.ensures, ← c.outside-3.ensures, c.if-outside-2.true))

pub returns-then-too_large : goal.returns-then-too_large
unfolding first outcome answered refusal_of sheet element_count
returns-then-too_large c =
    rw (past_modulus c.args.h _ c.in_ok-try_from.ensures _ c.in_ok-modulus.ensures, ← c.outside.ensures, c.if-outside.false)
    (rw (← c.outside-2.ensures, ← c.outside-3.ensures, c.if-outside-2.false, ← c.too_large.ensures, c.if-too_large.true))

pub returns : goal.returns
unfolding first outcome answered element_count
returns c =
    rw (past_modulus c.args.h _ c.in_ok-try_from.ensures _ c.in_ok-modulus.ensures, ← c.outside.ensures, c.if-outside.false)
    (rw (← c.outside-2.ensures, ← c.outside-3.ensures, c.if-outside-2.false, ← c.too_large.ensures, c.if-too_large.false))
