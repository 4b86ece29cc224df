-- `message_bytes::same_bytes` meets its contract.
use mathlib.Core.Path.{◌≡◌}
use lib.Dec.{eqb}
use lib.ListN.{length, take}
use Rattle.algebra.specs.Lists.{same}
use Rattle.message_bytes.specs.Bytes.{elements_of}
use Rattle.message_bytes.proofs.same_bytes.Given as goal

abbrev pub invariant-loop-i : goal.invariant-loop-i
invariant-loop-i l = eqb l.differ 0 ≡ same (take l.i (elements_of (length l.xs) l.bytes)) (take l.i l.xs)
