-- `masks::count_usable` meets its contract: its loop knows the prime by the last usable word alone.
use mathlib.Core.Path.{◌≡◌}
use Prim.Native.Nat.{ℕ, ◌+◌, ◌≤◌}
use Rattle.masks.specs.Drawing.{limit}
use Rattle.masks.proofs.Loops.{Counted}
use Rattle.masks.proofs.count_usable.Given as goal

abbrev pub invariant-loop-word : goal.invariant-loop-word
invariant-loop-word l = record { most : l.n ≤ l.word-index; so_far : (q : ℕ) → l.last + 1 ≡ limit q → Counted q l.words l.n l.word-index }
