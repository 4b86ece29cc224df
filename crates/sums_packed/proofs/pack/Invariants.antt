-- `sums_packed::pack` meets its contract.
use Rattle.sums_packed.specs.Internal.{pair}
use mathlib.Core.Path.{◌≡◌}
use mathlib.Core.List.{◌++◌, List}
use Prim.Native.Nat.{◌+◌, ℕ, ◌/◌}
use lib.ListN.{length, drop, get_or}
use Rattle.algebra.specs.Lists.{tab}
use Rattle.sums_packed.proofs.pack.Given as goal

-- the pair at k
abbrev pub at : List ℕ → ℕ → ℕ
at rows k = pair (get_or rows k 0) (get_or rows (length rows / 2 + k) 0)

abbrev pub invariant-loop-k : goal.invariant-loop-k
invariant-loop-k l = l.out ≡ tab (at l.fn.rows) l.k ++ drop l.k l.initial.out
