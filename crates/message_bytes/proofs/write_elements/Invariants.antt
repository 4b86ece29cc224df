-- `message_bytes::write_elements` meets its contract.
use mathlib.Core.Path.{◌≡◌}
use mathlib.Core.List.{◌++◌}
use Prim.Native.Nat.{◌*◌}
use lib.ListN.{take, drop}
use Rattle.message_bytes.specs.Bytes.{bytes_of}
use Rattle.message_bytes.proofs.write_elements.Given as goal

abbrev pub invariant-loop-i : goal.invariant-loop-i
invariant-loop-i l = l.out ≡ bytes_of (take l.i l.xs) ++ drop (l.i * 4) l.initial.out
