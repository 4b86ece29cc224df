-- `masks::find_words` meets its contract.
use Prim.Native.Nat.{◌-◌, ◌≤◌}
use lib.ListN.{length}
use Rattle.field.specs.Modulus.{prime}
use Rattle.masks.proofs.Loops.{Searched}
use Rattle.masks.proofs.find_words.Given as goal

abbrev pub invariant-loop-left : goal.invariant-loop-left
invariant-loop-left l = record { few : l.end ≤ length l.words; so_far : Searched (prime l.modulus) l.wanted l.words l.left l.end }

abbrev pub decreases-loop-left : goal.decreases-loop-left
decreases-loop-left l = length l.words - l.end
