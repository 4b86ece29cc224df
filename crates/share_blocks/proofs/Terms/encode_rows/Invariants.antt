-- `share_blocks::Terms::encode_rows` meets its contract.
use mathlib.Core.Path.{◌≡◌}
use mathlib.Core.List.{◌++◌}
use Prim.Native.Nat.{ℕ, ◌*◌, ◌^◌, ◌%◌}
use lib.ListN.{drop}
use Rattle.algebra.specs.Lists.{grid}
use Rattle.field.specs.Modulus.{prime}
use Rattle.share_blocks.specs.declared.Terms.{Terms}
use Rattle.share_blocks.specs.Internal.{row_sums}
use Rattle.share_blocks.proofs.Terms.encode_rows.Given as goal

-- an element of the block
abbrev pub element : Terms → ℕ → ℕ → ℕ
element t i j = row_sums (prime t.modulus) t.side t.weights.now t.xs.now t.masks.now i j % 2 ^ 64 % prime t.modulus

abbrev pub invariant-loop-i : goal.invariant-loop-i
invariant-loop-i g l = l.out ≡ grid (element l.self) l.i l.columns ++ drop (l.i * l.columns) l.initial.out
