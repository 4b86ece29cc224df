-- `message::write_message` meets its contract.
use mathlib.Core.Path.{◌≡◌, sym, ap, ◌∙◌}
use mathlib.Core.List.{List, ◌++◌}
use Prim.Native.Nat.{ℕ, ◌+◌, ◌*◌, ◌≤◌, min}
use native.Mathlib.Omega.{arith}
use lib.ListN.{length, take, drop, length-append}
use Rattle.refusal.specs.Chain.{first}
use Rattle.message_header.specs.declared.Header.{Header}
use Rattle.message_header.specs.Header.{header}
use Rattle.message_header.proofs.Headers.{length_header}
use Rattle.message.specs.Format.{write_tests}
use Rattle.message.proofs.Fields.{writable}
use Rattle.message.proofs.Parts.{copied_header, written_part}
use Rattle.message.proofs.Outcomes.{written_done, written_refused}
use Rattle.refusal.proofs.Answered.{is_done, is_refused}
use Rattle.message.proofs.write_message.Goals as goal

module _ (h : Header) (xs out : List ℕ) where
  -- the output has room for the message, and begins with its header
  room_for : first (write_tests h xs (length out)) ≡ 0 → length out ≡ 16 + 4 * length xs
  room_for e = let w = writable h xs (length out) e in omega arith

  headed : {head out' : List ℕ} → first (write_tests h xs (length out)) ≡ 0 → head ≡ header h
      → out' ≡ take (min (length head) (length out)) head ++ drop (min (length head) (length out)) out → out' ≡ header h ++ drop 16 out
  headed e is copied = copied ∙ copied_header h out is (omega (arith, room_for e))

  long : {out' : List ℕ} → out' ≡ header h ++ drop 16 out → 16 ≤ length out'
  long e = omega (arith, ap length e, length-append (header h) (drop 16 out), length_header h)

pub returns-in_err-check_write-clause-bytes : goal.returns-in_err-check_write-clause-bytes
returns-in_err-check_write-clause-bytes c = sym (written_refused _ _ _ (is_refused _ _ _ c.in_err-check_write.ensures).0)

pub slice_bounds-write_elements-count : goal.slice_bounds-write_elements-count
slice_bounds-write_elements-count c =
    let clear = (is_done _ _ _ c.in_ok-check_write.ensures).0 in
    long c.args.h c.args.xs.now c.args.out.now (headed _ _ _ clear c.header_bytes-head.ensures c.copy_bytes.ensures)

pub slice_bounds-write_elements-start : goal.slice_bounds-write_elements-start
slice_bounds-write_elements-start c =
    let clear = (is_done _ _ _ c.in_ok-check_write.ensures).0 in
    long c.args.h c.args.xs.now c.args.out.now (headed _ _ _ clear c.header_bytes-head.ensures c.copy_bytes.ensures)

pub returns-clause-bytes : goal.returns-clause-bytes
returns-clause-bytes c =
    let a = c.args in
    let clear = (is_done _ _ _ c.in_ok-check_write.ensures).0 in
    let head = headed a.h a.xs.now a.out.now clear c.header_bytes-head.ensures c.copy_bytes.ensures in
    written_part a.h a.xs.now a.out.now c.copy_bytes.new.out c.write_elements.new.out (room_for a.h a.xs.now a.out.now clear) head c.write_elements.ensures
    ∙ sym (written_done a.h a.xs.now a.out.now clear)
