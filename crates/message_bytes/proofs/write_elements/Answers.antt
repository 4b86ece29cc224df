-- `message_bytes::write_elements` meets its contract.
use mathlib.Core.Path.{◌≡◌, refl, sym, ap, ◌∙◌}
use Prim.Native.Nat.{◌+◌, ◌-◌, ◌*◌}
use native.Mathlib.Omega.{arith}
use borrow.Rule.Slice.PartMut.{put_mid}
use lib.ListN.{get_or}
use Rattle.message_bytes.specs.Bytes.{big_endian, bytes_of}
use Rattle.message_bytes.specs.Internal.{common}
use Rattle.message_bytes.proofs.Words.{bytes_of_four, write_four}
use Rattle.message_bytes.proofs.write_elements.Goals as goal

pub loop-i-init : goal.loop-i-init
unfolding bytes_of
loop-i-init c = refl

pub loop-i-preserved : goal.loop-i-preserved
loop-i-preserved c =
    let i = c.loop-i.i in
    let four : c.copy_from_slice.new.self ≡ big_endian 4 (get_or c.args.xs.now i 0)
    = c.copy_from_slice.ensures.after ∙ c.to_be_bytes.ensures ∙ sym (bytes_of_four _) in
    ap (put_mid (i * 4) (i * 4 + 4 - i * 4) c.loop-i.out) four ∙ write_four c.args.xs.now c.args.out.now c.loop-i.out i c.loop-i.invariant (omega arith)

pub returns : goal.returns
unfolding common
returns c =
    let all : c.loop-i.i ≡ common c.args.out.now c.args.xs.now = omega arith in rw (← all) c.loop-i.invariant
