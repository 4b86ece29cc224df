-- `decode_table::Combination::put_pieces` meets its contract.
use Rattle.decode_table.specs.Internal.{piece_sum}
use Rattle.decode_table.specs.declared.Shape.{Shape}
use Rattle.field.specs.Modulus.{prime}
use Rattle.field.specs.declared.Modulus.{Modulus}
use mathlib.Core.Path.{◌≡◌}
use mathlib.Core.List.{◌++◌, List}
use Prim.Native.Nat.{◌*◌, ℕ, ◌%◌, ◌^◌}
use lib.ListN.{drop}
use Rattle.algebra.specs.Lists.{grid}
use Rattle.decode_table.proofs.Combination.put_pieces.Given as goal

-- an element of the table, by its piece
abbrev pub element : Modulus → Shape → List ℕ → List ℕ → List ℕ → ℕ → ℕ → ℕ
element modulus s indices weights store w v = piece_sum (prime modulus) s indices weights store w v % 2 ^ 64 % prime modulus

abbrev pub invariant-loop-piece : goal.invariant-loop-piece
invariant-loop-piece l =
    let a = l.self in
    l.table ≡ grid (element a.modulus a.shape a.indices.now a.weights.now a.store.now) l.piece l.columns ++ drop (l.piece * l.columns) l.initial.table
