-- `share_blocks::Terms::add_blocks` meets its contract.
use mathlib.Core.Path.{◌≡◌}
use Prim.Native.Nat.{ℕ, ◌+◌, ◌*◌}
use lib.ListN.{take, drop}
use Rattle.field.specs.Modulus.{prime}
use Rattle.sums.proofs.Steps.{sums_to}
use Rattle.sums_modular.specs.Internal.{combination}
use Rattle.share_blocks.specs.declared.Terms.{Terms}
use Rattle.share_blocks.proofs.Terms.add_blocks.Given as goal

-- the part of row h of the blocks, in column j
abbrev pub part : Terms → ℕ → ℕ → ℕ → ℕ
part t i h j =
    let s = t.side in
    combination (prime t.modulus) (take s.grid_columns (drop (h * s.grid_columns) t.weights.now))
    (drop ((h * s.block_rows + i) * (s.grid_columns * s.block_columns)) t.xs.now) s.block_columns j

abbrev pub invariant-loop-k : goal.invariant-loop-k
invariant-loop-k l = l.sums ≡ sums_to l.initial.sums (part l.self l.i) l.k
