-- `message_bytes::read_elements` meets its contract.
use mathlib.Core.Path.{◌≡◌}
use mathlib.Core.List.{◌++◌}
use lib.ListN.{drop}
use Rattle.message_bytes.specs.Bytes.{elements_of}
use Rattle.message_bytes.proofs.read_elements.Given as goal

abbrev pub invariant-loop-i : goal.invariant-loop-i
invariant-loop-i l = l.out ≡ elements_of l.i l.bytes ++ drop l.i l.initial.out
