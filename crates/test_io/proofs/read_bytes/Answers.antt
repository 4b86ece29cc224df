-- `test_io::read_bytes` meets its contract.
use lib.Seq.{length-take-le}
use mathlib.Core.Path.{◌≡◌}
use lib.ListN.{length, take}
use Prim.Native.Nat.{◌≤◌}
use native.Mathlib.Omega.{arith}
use Rattle.test_io.proofs.Counts.{counts_front, rest_kept}
use Rattle.test_io.proofs.read_bytes.Goals as goal

pub returns : goal.returns
returns c =
    let call = c.read_full in
    let n = c.min-n.result in
    let a = c.args in
    let few : n ≤ length a.out.now = omega (arith, c.min-n.ensures) in
    let size : length call.new.buf ≡ length (take n a.out.now) = call.auto.buf in
    let most : call.result ≤ a.count = omega (arith, call.ensures.0, size, length-take-le n a.out.now few, c.min-n.ensures) in
    record { told = counts_front call.result call.new.buf _ call.ensures.0; most = most; rest = rest_kept n a.count call.new.buf a.out.now few size (omega (arith, c.min-n.ensures)) }
