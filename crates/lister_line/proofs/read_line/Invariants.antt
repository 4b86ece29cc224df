-- `lister_line::read_line` meets its contract.
use Rattle.std.proofs.Common.{◌≡◌, take}
use Rattle.lister_line.specs.Internal.{nothing, run}
use Rattle.lister_line.proofs.read_line.Given as goal

abbrev pub invariant-loop-byte : goal.invariant-loop-byte
invariant-loop-byte l = l.p ≡ run nothing (take l.byte-index l.input)
