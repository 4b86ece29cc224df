-- `sums_folded::add_rows` meets its contract.
use Rattle.sums_folded.proofs.Steps.{pair_terms, row_product}
use Rattle.sums_folded.specs.Internal.{folded}
use Rattle.std.proofs.Common.{◌≡◌, ◌*◌, length, drop, ℕ, List}
use Rattle.sums.proofs.Steps.{sums_to}
use Rattle.sums_folded.proofs.add_rows.Given as goal

-- pair c of the rows, in column j
abbrev pub terms : List ℕ → List ℕ → ℕ → ℕ → ℕ → ℕ
terms weights source stride = pair_terms folded (length weights) (row_product weights source stride)

abbrev pub invariant-loop-c : goal.invariant-loop-c
invariant-loop-c l =
    record {
      is : l.sums ≡ sums_to l.initial.sums (terms l.weights l.source l.stride) l.c;
      row : l.rest ≡ drop (l.c * 2 * l.stride) l.source;
    }
