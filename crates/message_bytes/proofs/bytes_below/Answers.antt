-- `message_bytes::bytes_below` meets its contract.
use mathlib.Core.Path.{refl}
use Prim.Native.Nat.{◌*◌, ◌/◌, ◌<◌, ◌≤◌}
use native.Mathlib.Omega.{arith}
use borrow.Author.Tests.{tests}
use lib.ListN.{length}
use Rattle.std.proofs.Common.{rules}
use Rattle.std.proofs.lemmas.Iterator.{cases_from_all, YieldsList-from_range}
use Rattle.message_bytes.specs.Bytes.{number_at}
use Rattle.message_bytes.proofs.Words.{each_below}
use Rattle.message_bytes.proofs.bytes_below.Goals as goal

pub returns : goal.returns
returns c =
    let bytes = c.args.bytes.now in
    let n = length bytes / 4 in
    let q = c.prime_of-q.result in
    rw (← c.prime_of-q.ensures)
    (each_below q n bytes c.all.result
    (cases_from_all _ _ _ (λ i. number_at bytes (i * 4) 4 < q) (λ i. q ≤ number_at bytes (i * 4) 4) c.all.ensures.ran
    (YieldsList-from_range 0 n n refl (omega arith)) (λ x p k. search (rules, tests)) (λ x p k. search (rules, tests))))
