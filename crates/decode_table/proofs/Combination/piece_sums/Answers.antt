-- `decode_table::Combination::piece_sums` meets its contract.
use mathlib.Core.Path.{ap, ap₂, ◌∙◌}
use mathlib.Core.List.{List}
use Prim.Native.Nat.{ℕ, ◌-◌, ◌*◌}
use native.Mathlib.Omega.{arith}
use lib.ListN.{length, take, drop}
use Rattle.field.specs.Modulus.{prime}
use Rattle.sums.specs.Internal.{zeros}
use Rattle.sums.proofs.Exact.{zeros_more}
use Rattle.algebra.proofs.Lists.{rest_is, rest_clipped}
use Rattle.decode_table.specs.Internal.{block_count, block_length, piece_block, piece_row, answers_added, piece_term, piece_sum}
use Rattle.decode_table.proofs.Pieces.{located, block_there, piece_there}
use Rattle.decode_table.proofs.Combination.piece_sums.Goals as goal

pub overflow_mul-block : goal.overflow_mul-block
unfolding block_count block_length piece_block piece_row
overflow_mul-block c = let p = located c.args.self.now.shape (length c.args.self.now.indices.now) c.args.piece c.args.self.now.weighted.sized c.requires in omega arith

pub overflow_add-block : goal.overflow_add-block
unfolding block_count block_length piece_block piece_row
overflow_add-block c = let p = located c.args.self.now.shape (length c.args.self.now.indices.now) c.args.piece c.args.self.now.weighted.sized c.requires in omega arith

pub overflow_mul-row : goal.overflow_mul-row
unfolding block_count block_length piece_block piece_row
overflow_mul-row c = let p = located c.args.self.now.shape (length c.args.self.now.indices.now) c.args.piece c.args.self.now.weighted.sized c.requires in omega arith

pub offset_bounds-self-block : goal.offset_bounds-self-block
unfolding piece_block
offset_bounds-self-block c = let p = block_there c.args.self.now.weighted c.args.piece c.requires in omega arith

pub slice_bounds-add_answers-count : goal.slice_bounds-add_answers-count
unfolding piece_block
slice_bounds-add_answers-count c = let p = block_there c.args.self.now.weighted c.args.piece c.requires in omega arith

pub slice_bounds-add_answers-start : goal.slice_bounds-add_answers-start
unfolding piece_block
slice_bounds-add_answers-start c = let p = block_there c.args.self.now.weighted c.args.piece c.requires in omega arith

pub overflow_mul-s : goal.overflow_mul-s
unfolding block_count
overflow_mul-s c = let p = located c.args.self.now.shape (length c.args.self.now.indices.now) c.args.piece c.args.self.now.weighted.sized c.requires in omega arith

pub overflow_mul-s-2 : goal.overflow_mul-s-2
unfolding block_length
overflow_mul-s-2 c = let p = located c.args.self.now.shape (length c.args.self.now.indices.now) c.args.piece c.args.self.now.weighted.sized c.requires in omega arith

pub add_answers-requires : goal.add_answers-requires
unfolding block_count block_length piece_block
add_answers-requires c =
    let a = c.args.self.now in
    rw (rest_is a.weights.now (piece_block a.shape c.args.piece)) (piece_there a.weighted c.args.piece c.requires)

pub returns : goal.returns
unfolding block_count block_length piece_block piece_row piece_term piece_sum answers_added
returns c =
    let a = c.args.self.now in
    let w = c.args.piece in
    let block = piece_block a.shape w in
    let offset = piece_row a.shape w * a.shape.block_columns in
    let from = c.min-offset.result in
    let terms : List ℕ → List ℕ → List ℕ → List ℕ
    = λ l ws store. answers_added (prime a.modulus) l ws (block_count a.shape) a.indices.now store (block_length a.shape) in
    c.add_answers.ensures
    ∙ ap (λ (l : List ℕ). terms l (take (length a.weights.now - block) (drop block a.weights.now)) (take (length a.store.now - from) (drop from a.store.now))) c.clear.ensures
    ∙ ap₂ (terms (zeros c.args.sums.now)) (rest_is a.weights.now block) (rest_clipped a.store.now offset from c.min-offset.ensures)
    ∙ zeros_more (piece_sum (prime a.modulus) a.shape a.indices.now a.weights.now a.store.now w) c.args.sums.now
