-- `message_bytes::read_elements` meets its contract.
use mathlib.Core.Path.{◌≡◌, ap, ◌∙◌}
use Prim.Native.Nat.{ℕ, ◌*◌}
use native.Mathlib.Omega.{arith}
use lib.ListN.{set}
use Rattle.algebra.proofs.Fronts.{front_none, front_more}
use Rattle.message_bytes.specs.Bytes.{number_at, elements_of}
use Rattle.message_bytes.specs.Internal.{common}
use Rattle.message_bytes.proofs.read_elements.Goals as goal

pub loop-i-init : goal.loop-i-init
unfolding elements_of
loop-i-init c = front_none (λ (k : ℕ). number_at c.args.bytes.now (k * 4) 4) c.args.out.now

pub loop-i-preserved : goal.loop-i-preserved
unfolding elements_of
loop-i-preserved c =
    ap (set c.loop-i.out c.loop-i.i) c.element_at.ensures
    ∙ front_more (λ (k : ℕ). number_at c.args.bytes.now (k * 4) 4) c.args.out.now c.loop-i.out c.loop-i.i (omega arith) c.loop-i.invariant

pub returns : goal.returns
unfolding common
returns c =
    let all : c.loop-i.i ≡ common c.args.bytes.now c.args.out.now = omega arith in rw (← all) c.loop-i.invariant
