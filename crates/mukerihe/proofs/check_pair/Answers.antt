-- `mukerihe::check_pair` meets its contract.
use mathlib.Core.Path.{◌≡◌, sym, ap, ap₂, ◌∙◌}
use mathlib.Core.Bool.{Bool, true, false, not, ◌||◌}
use mathlib.Core.List.{[], ◌∷◌}
use Prim.Native.Nat.{ℕ, ◌+◌, ◌*◌}
use lib.Dec.{ltb}
use borrow.Author.Tests.{ne_eqb, lt-ltb, le-ltb}
use Rattle.algebra.proofs.Tests.{alike}
use Rattle.refusal.specs.Numbers.{refusal_of, sheet, own}
use Rattle.refusal.specs.Chain.{answered, differs}
use Rattle.refusal.specs.Limits.{most_elements}
use Rattle.refusal.proofs.Answered.{answered_none, answered_hit, answered_miss}
use Rattle.message_header.specs.declared.Header.{Header}
use Rattle.message_header.specs.Header.{element_count}
use Rattle.mukerihe.specs.Answer.{pair_header, pair_tests}
use Rattle.mukerihe.proofs.check_pair.Goals as goal

unlike : (a b : ℕ) → (a ≡ b → ⊥) → differs a b ≡ true
unlike a b ne = ap not (ne_eqb a b ne)

-- the test of the kinds, with their numbers
kinds : (g h : ℕ) {one two : ℕ} {b : Bool} → one ≡ 1 → two ≡ 2 → (differs g one || differs h two) ≡ b → (differs g 1 || differs h 2) ≡ b
kinds g h is-one is-two t = sym (ap₂ (λ (one two : ℕ). differs g one || differs h two) is-one is-two) ∙ t

module _ (g h : Header) (room : ℕ) (paired : (differs g.kind 1 || differs h.kind 2) ≡ false) (moduli : g.modulus ≡ h.modulus) where
  -- the kinds are right, and the moduli the same
  past-moduli : answered (pair_tests g h room) (tt {0})
      ≡ answered
      ((differs g.host h.host, 1004)
      ∷ (differs g.number h.number, 1005)
      ∷ (differs g.columns h.rows, 1006)
      ∷ (ltb most_elements (element_count (pair_header g h)), 6)
      ∷ (ltb room (16 + 4 * element_count (pair_header g h)), 13)
      ∷ []) (tt {0})
  unfolding pair_tests
  past-moduli = answered_miss _ 1001 _ _ paired ∙ answered_miss _ 1003 _ _ (alike _ _ moduli)

  module _ (hosts : g.host ≡ h.host) (jobs : g.number ≡ h.number) where
    -- so are hosts and job numbers
    past-jobs : answered (pair_tests g h room) (tt {0})
        ≡ answered
        ((differs g.columns h.rows, 1006)
        ∷ (ltb most_elements (element_count (pair_header g h)), 6)
        ∷ (ltb room (16 + 4 * element_count (pair_header g h)), 13)
        ∷ []) (tt {0})
    past-jobs = past-moduli ∙ answered_miss _ 1004 _ _ (alike _ _ hosts) ∙ answered_miss _ 1005 _ _ (alike _ _ jobs)

    -- the answer's block is not too large, so the room decides
    past-block : g.columns ≡ h.rows → ltb most_elements (g.rows * h.columns) ≡ false
        → answered (pair_tests g h room) (tt {0}) ≡ answered ((ltb room (16 + 4 * (g.rows * h.columns)), 13) ∷ []) (tt {0})
    unfolding pair_header element_count
    past-block sizes block = past-jobs ∙ answered_miss _ 1006 _ _ (alike _ _ sizes) ∙ answered_miss _ 6 _ _ block

pub returns-then-g-from : goal.returns-then-g-from
unfolding pair_tests refusal_of own
returns-then-g-from c = sym (answered_hit _ 1000 _ _ (kinds _ _ c.from.ensures c.from-2.ensures c.if-g-from.true))

pub returns-then-g-h : goal.returns-then-g-h
unfolding pair_tests refusal_of own
returns-then-g-h c = sym (answered_miss _ 1001 _ _ (kinds _ _ c.from.ensures c.from-2.ensures c.if-g-from.false) ∙ answered_hit _ 1002 _ _ (unlike _ _ c.if-g-h.true))

pub returns-then-g-h-2 : goal.returns-then-g-h-2
unfolding refusal_of own
returns-then-g-h-2 c = sym (past-moduli c.args.g c.args.h c.args.room (kinds _ _ c.from.ensures c.from-2.ensures c.if-g-from.false) c.if-g-h.false ∙ answered_hit _ 1003 _ _ (unlike _ _ c.if-g-h-2.true))

pub returns-then-g-h-3 : goal.returns-then-g-h-3
unfolding refusal_of own
returns-then-g-h-3 c =
    sym (past-moduli c.args.g c.args.h c.args.room (kinds _ _ c.from.ensures c.from-2.ensures c.if-g-from.false) c.if-g-h.false ∙ answered_miss _ 1004 _ _ (alike _ _ c.if-g-h-2.false) ∙ answered_hit _ 1004 _ _ (unlike _ _ c.if-g-h-3.true))

pub returns-then-g-h-4 : goal.returns-then-g-h-4
unfolding refusal_of own
returns-then-g-h-4 c = sym (past-jobs c.args.g c.args.h c.args.room (kinds _ _ c.from.ensures c.from-2.ensures c.if-g-from.false) c.if-g-h.false c.if-g-h-2.false c.if-g-h-3.false ∙ answered_hit _ 1005 _ _ (unlike _ _ c.if-g-h-4.true))

pub returns-then-too_large : goal.returns-then-too_large
unfolding pair_header element_count refusal_of sheet
returns-then-too_large c =
    sym (past-jobs c.args.g c.args.h c.args.room (kinds _ _ c.from.ensures c.from-2.ensures c.if-g-from.false) c.if-g-h.false c.if-g-h-2.false c.if-g-h-3.false ∙ answered_miss _ 1006 _ _ (alike _ _ c.if-g-h-4.false) ∙ answered_hit _ 5 _ _ (sym c.too_large.ensures ∙ c.if-too_large.true))

pub returns-then-room-g : goal.returns-then-room-g
unfolding refusal_of sheet
returns-then-room-g c = sym (past-block c.args.g c.args.h c.args.room (kinds _ _ c.from.ensures c.from-2.ensures c.if-g-from.false) c.if-g-h.false c.if-g-h-2.false c.if-g-h-3.false c.if-g-h-4.false (sym c.too_large.ensures ∙ c.if-too_large.false) ∙ answered_hit _ 12 _ _ (lt-ltb _ _ c.if-room-g.true))

pub returns : goal.returns
returns c = sym (past-block c.args.g c.args.h c.args.room (kinds _ _ c.from.ensures c.from-2.ensures c.if-g-from.false) c.if-g-h.false c.if-g-h-2.false c.if-g-h-3.false c.if-g-h-4.false (sym c.too_large.ensures ∙ c.if-too_large.false) ∙ answered_miss _ 13 _ _ (le-ltb _ _ c.if-room-g.false) ∙ answered_none _)
