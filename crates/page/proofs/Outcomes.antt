-- What a call of the page returns and leaves.
--
--   Fits, fits        what the tests at a modulus leave: sizes in range, a table of that many elements, and room for its page
--   sized             what the test 2 leaves
--   modulus_refused   the number names no modulus
--   past_modulus      it names one: the tests at that modulus decide
--   kept              the call is refused: the output stays
--   done              it is not: the output holds the page
use mathlib.Core.Path.{◌≡◌, refl, sym, ap, ◌∙◌}
use mathlib.Core.Bool.{false, ◌||◌}
use mathlib.Core.List.{List, [], ◌∷◌}
use Prim.Native.Nat.{ℕ, ◌*◌}
use lib.ListN.{length}
use Rattle.std.specs.Prelude.{Ok, Err}
use Rattle.algebra.proofs.Tests.{equal}
use Rattle.refusal.specs.declared.Refusal.{Refusal}
use Rattle.refusal.specs.Numbers.{refusal_of, sheet}
use Rattle.refusal.specs.Chain.{answered, outside}
use Rattle.refusal.proofs.Chains.{numbered, first_clear, unless_done, unless_refused_lem}
use Rattle.refusal.proofs.Answered.{is_done, is_refused, refused_on, passed_on}
use Rattle.refusal.proofs.Limits.{Within, within_both}
use Rattle.field.specs.declared.Modulus.{Modulus}
use Rattle.field.specs.Modulus.{modulus, no_modulus, prime, named, modulus_in}
use Rattle.field.proofs.Moduli.{known, is_named}
use Rattle.page.specs.Page.{page, page_length, page_tests, page_after}
use Rattle.page.specs.Internal.{table_tests}

pub record Sizes (t r : ℕ) : Type 0 where
  pub tall : Within 16384 t
  pub wide : Within 16384 r

pub sizes : (t r : ℕ) → (outside 1 16384 t || outside 1 16384 r) ≡ false → Sizes t r
sizes t r e = let both = within_both 16384 t r e in record { tall = both.0; wide = both.1 }

pub record Fits (t r : ℕ) (table : List ℕ) (room : ℕ) : Type 0 where
  pub sizes : Sizes t r
  pub whole : length table ≡ t * r
  pub length_is : room ≡ page_length t r

pub fits : (q t r : ℕ) (table : List ℕ) (room : ℕ) → Ok tt ≡ answered (table_tests q t r table room) (tt {0}) → Fits t r table room
unfolding table_tests
fits q t r table room e =
    let size = first_clear _ 1 _ (is_done (table_tests q t r table room) tt tt e).0 in
    let whole = first_clear _ 12 _ size.1 in
    let room = first_clear _ 27 _ whole.1 in
    record { sizes = sizes t r size.0; whole = equal _ _ whole.0; length_is = equal _ _ room.0 }

module _ (n t r : ℕ) (table out : List ℕ) where
  pub modulus_refused : (x : Refusal) → Err x ≡ answered ((no_modulus n, 1) ∷ []) (modulus_in (named n))
      → Err x ≡ answered (page_tests n t r table (length out)) (tt {0})
  unfolding page_tests
  modulus_refused = refused_on ((no_modulus n, 1) ∷ []) _ (modulus_in (named n)) tt

  pub past_modulus : (m : Modulus) → Ok m ≡ answered ((no_modulus n, 1) ∷ []) (modulus_in (named n))
      → answered (page_tests n t r table (length out)) (tt {0}) ≡ answered (table_tests (prime m) t r table (length out)) tt
  unfolding page_tests table_tests numbered refusal_of sheet
  past_modulus m e =
      passed_on ((no_modulus n, 1) ∷ []) (table_tests (modulus n) t r table (length out)) (modulus_in (named n)) tt m tt e
      ∙ ap (λ (q : ℕ). answered (table_tests q t r table (length out)) tt) (known n (is_named n m e) refl).is

  pub kept : (x : Refusal) → Err x ≡ answered (page_tests n t r table (length out)) (tt {0}) → out ≡ page_after n t r table out
  unfolding page_after
  kept x e = sym (unless_refused_lem _ _ out (is_refused _ _ x e).0)

  pub done : Ok tt ≡ answered (page_tests n t r table (length out)) (tt {0}) → page t r table ≡ page_after n t r table out
  unfolding page_after
  done e = sym (unless_done _ _ out (is_done (page_tests n t r table (length out)) tt tt e).0)
