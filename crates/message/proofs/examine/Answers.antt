-- `message::examine` meets its contract.
use mathlib.Core.Path.{◌≡◌, sym, ap, ◌∙◌}
use mathlib.Core.Bool.{Bool, not}
use mathlib.Core.List.{List, [], ◌∷◌}
use Prim.Native.Nat.{ℕ, ◌+◌, ◌*◌, ◌/◌, ◌≤◌}
use native.Mathlib.Omega.{arith}
use lib.ListN.{length}
use borrow.Author.Tests.{ne_eqb}
use Rattle.std.specs.Prelude.{Ok}
use Rattle.std.proofs.lemmas.Result.{err_from_is_err_and}
use Rattle.algebra.specs.Lists.{all_below}
use Rattle.algebra.proofs.Tests.{alike}
use Rattle.refusal.specs.Numbers.{refusal_of, sheet}
use Rattle.refusal.specs.Chain.{answered, differs}
use Rattle.refusal.proofs.Answered.{answered_hit, answered_miss, answered_none, refused_on, passed_on}
use Rattle.field.specs.declared.Modulus.{Modulus}
use Rattle.field.specs.Modulus.{prime}
use Rattle.message_bytes.specs.Bytes.{elements_of}
use Rattle.message_header.specs.declared.Header.{Header}
use Rattle.message_header.specs.Header.{header_of, element_count, header_tests}
use Rattle.message_header.specs.Internal.{opened}
use Rattle.message_header.proofs.Tests.{header_numbered}
use Rattle.message_header.proofs.Fields.{ranged, headed}
use Rattle.message_header.proofs.Outcomes.{opened_told}
use Rattle.message.specs.Format.{elements, element_test, message_tests, examined}
use Rattle.message.proofs.Tests.{element_named}
use Rattle.message.proofs.Parts.{Rest, elements_part}
use Rattle.message.proofs.examine.Goals as goal

-- the header has passed, and these are its fields and their modulus
module _ (message : List ℕ) (h : Header) (m : Modulus) (o : Ok (h, m) ≡ opened message) where
  same : h ≡ header_of message
  same = (opened_told message h m o).1

  small : h.rows * h.columns ≤ 4096
  unfolding element_count
  small =
      let told = opened_told message h m o in
      omega (arith, ap element_count told.1, (ranged (header_of message) (headed message told.0).fields).count)

  -- the number of elements, as it was read
  count_is : h.rows * h.columns ≡ element_count (header_of message)
  unfolding element_count
  count_is = ap element_count same

  past_header : examined message
      ≡ answered
      ((differs (length message) (16 + 4 * element_count (header_of message)), 20)
      ∷ (element_test (header_of message).modulus (elements message), 14)
      ∷ []) (header_of message)
  unfolding examined message_tests opened
  past_header = passed_on (header_tests message) _ _ _ (h, m) (header_numbered message) o

  -- the last test decides, and what it tells
  last : (b : Bool) (whole : length message ≡ 16 + 4 * element_count (header_of message))
      → b ≡ all_below (prime m) (elements_of (length (Rest message) / 4) (Rest message))
      → examined message ≡ answered ((not b, 14) ∷ []) h
  last b whole is =
      let told = ap (λ (k : Header). element_test k.modulus (elements message)) (sym same)
      ∙ element_named _ (elements message) (opened_told message h m o).2
      ∙ ap not (sym (is ∙ ap (all_below (prime m)) (elements_part message whole))) in
      past_header
      ∙ answered_miss _ 20 _ _ (alike _ _ whole)
      ∙ ap (λ (b : Bool). answered ((b, 14) ∷ []) (header_of message)) told
      ∙ ap (λ (k : Header). answered ((not b, 14) ∷ []) k) (sym same)

pub overflow_mul-h : goal.overflow_mul-h
overflow_mul-h c = omega (arith, small _ _ _ c.in_ok-h.ensures)

pub overflow_mul-h-2 : goal.overflow_mul-h-2
overflow_mul-h-2 c = omega (arith, small _ _ _ c.in_ok-h.ensures)

pub overflow_add-h : goal.overflow_add-h
overflow_add-h c = omega (arith, small _ _ _ c.in_ok-h.ensures)

-- the header was refused
pub returns-in_err-h : goal.returns-in_err-h
unfolding examined message_tests opened
returns-in_err-h c =
    let p = err_from_is_err_and c.from_residual.result c.from_residual.ensures.1 in
    rw (p.1, p.2) (refused_on (header_tests _) _ _ _ _ c.in_err-h.ensures)

pub returns-then-message-h : goal.returns-then-message-h
unfolding refusal_of sheet
returns-then-message-h c =
    let message = c.args.message.now in
    let o = c.in_ok-h.ensures in
    let other = ne_eqb (length message) (16 + 4 * element_count (header_of message)) (λ z. omega (arith, c.if-message-h.true, count_is _ _ _ o)) in
    sym (past_header _ _ _ o ∙ answered_hit _ 19 _ _ (ap not other))

pub returns-then-not-bytes_below : goal.returns-then-not-bytes_below
unfolding refusal_of sheet
returns-then-not-bytes_below c =
    let o = c.in_ok-h.ensures in
    let whole : length c.args.message.now ≡ 16 + 4 * element_count (header_of c.args.message.now) = omega (arith, c.if-message-h.false, count_is _ _ _ o) in
    sym (last _ _ _ o _ whole c.bytes_below.ensures ∙ answered_hit _ 13 _ _ (ap not c.if-not-bytes_below.true))

pub returns : goal.returns
returns c =
    let o = c.in_ok-h.ensures in
    let whole : length c.args.message.now ≡ 16 + 4 * element_count (header_of c.args.message.now) = omega (arith, c.if-message-h.false, count_is _ _ _ o) in
    sym (last _ _ _ o _ whole c.bytes_below.ensures ∙ answered_miss _ 14 _ _ (ap not c.if-not-bytes_below.false) ∙ answered_none _)
