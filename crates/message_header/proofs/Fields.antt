-- What the tests of a header tell, and when they pass.
--
--   Ranged h          the fields are in their ranges
--   ranged            they are where the tests of the fields pass
--   fields_pass       these pass where the fields are in their ranges
--   Headed message    what the tests of a message's header ask
--   headed, heads     they pass where it holds, and only there
use mathlib.Core.Path.{◌≡◌, ap₂, ◌∙◌}
use mathlib.Core.Bool.{false, ◌||◌}
use mathlib.Core.List.{List}
use Prim.Native.Nat.{ℕ, ◌^◌, ◌<◌, ◌≤◌}
use native.Mathlib.Omega.{arith}
use lib.ListN.{length}
use borrow.Author.Tests.{ltb-false, le-ltb}
use Rattle.algebra.proofs.Tests.{equal, alike}
use Rattle.refusal.specs.Chain.{first}
use Rattle.refusal.proofs.Chains.{first_none, first_miss, first_clear, inside_low, inside_high}
use Rattle.refusal.proofs.Limits.{Within, within_range, within_both}
use Rattle.field.specs.Modulus.{moduli, modulus, no_modulus}
use Rattle.field.proofs.Moduli.{known_number}
use Rattle.message_bytes.specs.Bytes.{number_at}
use Rattle.message_header.specs.declared.Header.{Header}
use Rattle.message_header.specs.Header.{mark, version, header_of, element_count, field_tests, header_tests}
use Rattle.message_header.proofs.Tests.{past_version}

pub record Ranged (h : Header) : Type 0 where
  pub known : no_modulus h.modulus ≡ false
  pub prime : modulus h.modulus < 2 ^ 31
  pub kind : h.kind ≤ 3
  pub modulus : h.modulus ≤ 255
  pub host : Within 64 h.host
  pub rows : Within 16384 h.rows
  pub columns : Within 16384 h.columns
  pub count : element_count h ≤ 4096

pub ranged : (h : Header) → first (field_tests h) ≡ 0 → Ranged h
unfolding field_tests no_modulus moduli
ranged h e =
    let kind = first_clear _ 15 _ e in
    let number = first_clear _ 0 _ kind.1 in
    let host = first_clear _ 11 _ number.1 in
    let size = first_clear _ 1 _ host.1 in
    let block = first_clear _ 5 _ size.1 in
    let sides = within_both 16384 h.rows h.columns size.0 in
    record {
      known = number.0;
      kind = inside_high 1 3 _ kind.0;
      modulus = omega (arith, inside_high 1 (length moduli) _ number.0);
      host = record { low = inside_low 1 64 _ host.0; high = inside_high 1 64 _ host.0 };
      rows = sides.0;
      columns = sides.1;
      count = ltb-false 4096 _ block.0;
      prime = (known_number h.modulus number.0).small;
    }

pub fields_pass : (h : Header) → Within 3 h.kind → no_modulus h.modulus ≡ false → Within 64 h.host → Within 16384 h.rows
    → Within 16384 h.columns → element_count h ≤ 4096 → first (field_tests h) ≡ 0
unfolding field_tests
fields_pass h kind known host rows columns count =
    first_miss _ 16 _ (within_range kind)
    ∙ first_miss _ 1 _ known
    ∙ first_miss _ 12 _ (within_range host)
    ∙ first_miss _ 2 _ (ap₂ ◌||◌ (within_range rows) (within_range columns))
    ∙ first_miss _ 6 _ (le-ltb 4096 (element_count h) count)
    ∙ first_none

pub record Headed (message : List ℕ) : Type 0 where
  pub long : 16 ≤ length message
  pub mark : number_at message 0 3 ≡ mark
  pub version : number_at message 3 2 ≡ version
  pub fields : first (field_tests (header_of message)) ≡ 0

module _ (message : List ℕ) where
  pub headed : first (header_tests message) ≡ 0 → Headed message
  unfolding header_tests
  headed e =
      let long = first_clear _ 16 _ e in
      let mark = first_clear _ 17 _ long.1 in
      let version = first_clear _ 18 _ mark.1 in
      record {
        long = ltb-false (length message) 16 long.0;
        mark = equal _ _ mark.0;
        version = equal _ _ version.0;
        fields = version.1;
      }

  pub heads : Headed message → first (header_tests message) ≡ 0
  heads h = past_version message h.long (alike _ _ h.mark) (alike _ _ h.version) ∙ h.fields
