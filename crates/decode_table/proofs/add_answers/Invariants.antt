-- `decode_table::add_answers` meets its contract.
use Rattle.decode_table.specs.Internal.{answer_term}
use Rattle.sums_modular.specs.Internal.{pair_term}
use Rattle.sums_folded.proofs.Steps.{pair_terms}
use lib.ListN.{length}
use mathlib.Core.List.{List}
use mathlib.Core.Path.{◌≡◌}
use Prim.Native.Nat.{ℕ}
use Rattle.field.specs.Modulus.{prime}
use Rattle.sums.proofs.Steps.{sums_to}
use Rattle.decode_table.proofs.add_answers.Given as goal

-- what pair c of the answers adds at v
abbrev pub terms : ℕ → List ℕ → ℕ → List ℕ → List ℕ → ℕ → ℕ → ℕ → ℕ
terms q weights step indices source size = pair_terms (pair_term q) (length indices) (answer_term weights step indices source size)

abbrev pub invariant-loop-c : goal.invariant-loop-c
invariant-loop-c l = l.sums ≡ sums_to l.initial.sums (terms (prime l.modulus) l.weights l.step l.indices l.source l.size) l.c
