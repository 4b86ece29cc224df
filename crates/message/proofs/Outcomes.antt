-- What the calls return and leave, by their tests.
--
--   told_fields                      one that tells fields on paper has these fields
--   written_done, written_refused    what writing leaves
--   read_told                        what reading tells on paper: the first number that fits, or the fields
--   read_short                       the output of reading is too short
--   read_long                        it is long enough: reading returns what looking over does
--   read_done                        what reading then leaves
--   kept_short, kept                 what it leaves where it is refused
use mathlib.Core.Path.{◌≡◌, refl, sym, ap, ◌∙◌}
use mathlib.Core.List.{List, [], ◌++◌}
use Prim.Native.Nat.{ℕ, zero, suc, ◌<◌, ◌≤◌}
use native.Mathlib.Nat.{suc-ne-zero}
use lib.ListN.{length, drop}
use borrow.Author.Tests.{lt-ltb, le-ltb}
use Rattle.std.specs.Prelude.{Result, Ok, Err}
use Rattle.refusal.specs.declared.Refusal.{Refusal}
use Rattle.refusal.specs.Numbers.{number, refusal_of, sheet}
use Rattle.refusal.specs.Chain.{first, outcome, answered, refuse, done, refused}
use Rattle.refusal.proofs.Chains.{first_hit, first_miss, first_numbered, unless_done, unless_refused_lem}
use Rattle.message_header.specs.declared.Header.{Header}
use Rattle.message_header.specs.Header.{header_of, element_count, fields}
use Rattle.message_header.proofs.Outcomes.{same_fields}
use Rattle.message.proofs.Tests.{read_numbered}
use Rattle.message.specs.Format.{message_of, elements, write_tests, message_tests, read_tests, written, examined, read_as, read_into, told}

pub told_fields : (r : Result Header Refusal) (h : Header) → told r ≡ done (fields h) → r ≡ Ok h
unfolding fields
told_fields (Ok k) h e = ap Ok (same_fields k h (ap (λ t. t.values) e))
told_fields (Err n) h e = absurd (never (ap (λ t. t.values) e))
  where
    never : [] ≡ fields h → ⊥
    never none = cc

module _ (h : Header) (xs out : List ℕ) where
  pub written_done : first (write_tests h xs (length out)) ≡ 0 → written h xs out ≡ message_of h xs
  unfolding written
  written_done = unless_done (write_tests h xs (length out)) (message_of h xs) out

  pub written_refused : (first (write_tests h xs (length out)) ≡ 0 → ⊥) → written h xs out ≡ out
  unfolding written
  written_refused = unless_refused_lem (write_tests h xs (length out)) (message_of h xs) out

module _ (message : List ℕ) where
  module _ (room : ℕ) where
    pub read_told : told (read_as message room) ≡ outcome (first (read_tests message room)) (done (fields (header_of message))) refused
    unfolding read_as answered outcome
    read_told = go (first (read_tests message room)) (first_numbered (read_tests message room) (read_numbered message room))
      where
        go : (n : ℕ) → ((n ≡ 0 → ⊥) → number (refusal_of n) ≡ n)
            → told (outcome n (Ok (header_of message)) refuse) ≡ outcome n (done (fields (header_of message))) refused
        go zero is = refl
        go (suc n) is = ap refused (is (suc-ne-zero n))

    short_tests : room < 4096 → first (read_tests message room) ≡ 13
    unfolding read_tests
    short_tests l = first_hit _ 13 _ (lt-ltb room 4096 l)

    pub read_short : room < 4096 → read_as message room ≡ Err Refusal.Length
    unfolding read_as answered outcome refusal_of sheet
    read_short l = rw (short_tests l)

    read_tests_lem : 4096 ≤ room → first (read_tests message room) ≡ first (message_tests message)
    unfolding read_tests
    read_tests_lem l = first_miss _ 13 _ (le-ltb room 4096 l)

    pub read_long : 4096 ≤ room → read_as message room ≡ examined message
    unfolding read_as examined answered
    read_long l = rw (read_tests_lem l)

  module _ (out : List ℕ) where
    pub read_done : 4096 ≤ length out → first (message_tests message) ≡ 0
        → read_into message out ≡ elements message ++ drop (element_count (header_of message)) out
    unfolding read_into
    read_done l e = unless_done (read_tests message (length out)) _ out (read_tests_lem (length out) l ∙ e)

    pub kept_short : length out < 4096 → read_into message out ≡ out
    unfolding read_into
    kept_short l = unless_refused_lem (read_tests message (length out)) _ out (λ z. suc-ne-zero 12 (sym (short_tests (length out) l) ∙ z))

    pub kept : 4096 ≤ length out → (first (message_tests message) ≡ 0 → ⊥) → read_into message out ≡ out
    unfolding read_into
    kept l ne = unless_refused_lem (read_tests message (length out)) _ out (λ z. ne (sym (read_tests_lem (length out) l) ∙ z))
