-- `decode::points_at` meets its contract.
use mathlib.Core.Path.{◌≡◌}
use mathlib.Core.List.{◌++◌, map}
use lib.ListN.{get_or, take, drop}
use Rattle.decode.proofs.points_at.Given as goal

abbrev pub invariant-loop-c : goal.invariant-loop-c
invariant-loop-c l = l.out ≡ map (λ h. get_or l.points h 0) (take l.c l.indices) ++ drop l.c l.initial.out
