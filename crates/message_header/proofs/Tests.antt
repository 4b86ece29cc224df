-- The tests of a header, one after the other.
--
--   fields_numbered, header_numbered  every test has a number
--   past_version                      length, mark and version have passed: the fields decide
use mathlib.Core.Path.{◌≡◌, ◌∙◌}
use mathlib.Core.Bool.{false}
use mathlib.Core.List.{List}
use Prim.Native.Nat.{ℕ, ◌≤◌}
use lib.Dec.{T}
use lib.ListN.{length}
use borrow.Author.Tests.{le-ltb}
use Rattle.refusal.specs.Chain.{first, differs}
use Rattle.refusal.proofs.Chains.{first_miss, numbered}
use Rattle.refusal.specs.Numbers.{refusal_of, sheet}
use Rattle.message_bytes.specs.Bytes.{number_at}
use Rattle.message_header.specs.declared.Header.{Header}
use Rattle.message_header.specs.Header.{mark, version, header_of, field_tests, header_tests}

pub fields_numbered : (h : Header) → T (numbered (field_tests h))
unfolding field_tests numbered refusal_of sheet
fields_numbered h = tt

module _ (message : List ℕ) where
  pub header_numbered : T (numbered (header_tests message))
  unfolding header_tests field_tests numbered refusal_of sheet
  header_numbered = tt

  pub past_version : 16 ≤ length message → differs (number_at message 0 3) mark ≡ false → differs (number_at message 3 2) version ≡ false
      → first (header_tests message) ≡ first (field_tests (header_of message))
  unfolding header_tests
  past_version long marked versioned =
      first_miss _ 17 _ (le-ltb (length message) 16 long) ∙ first_miss _ 18 _ marked ∙ first_miss _ 19 _ versioned
