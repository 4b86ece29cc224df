-- `decode_table::Combination::put_pieces` meets its contract.
use mathlib.Core.Path.{◌≡◌, ap, ◌∙◌}
use mathlib.Core.List.{List, ◌++◌}
use Prim.Native.Nat.{ℕ, ◌+◌, ◌*◌, ◌%◌, ◌^◌, ◌<◌, ◌≤◌}
use native.Mathlib.Nat.{add-sub_cancel_left}
use native.Mathlib.Omega.{arith}
use lib.ListN.{length, take, drop, length-drop}
use lib.Seq.{length-take-le}
use Rattle.algebra.specs.Lists.{tab, grid}
use Rattle.algebra.proofs.Orders.{row_end}
use Rattle.algebra.proofs.Grids.{rows_none, rows_more, rows_all}
use Rattle.field.specs.Modulus.{prime}
use Rattle.sums.specs.Internal.{reduced}
use Rattle.sums.proofs.Reduced.{reduced_tab}
use Rattle.decode_table.specs.Internal.{piece_count, piece_sum, pieces_of}
use Rattle.decode_table.proofs.Combination.put_pieces.Invariants.{element}
use Rattle.decode_table.proofs.Combination.put_pieces.Goals as goal
use Rattle.decode_table.proofs.Combination.put_pieces.Goals.{In-loop-piece}

pub loop-piece-init : goal.loop-piece-init
loop-piece-init c =
    rows_none _ c.args.table.now c.args.self.now.shape.block_columns

-- there is a next piece
more : (c : In-loop-piece) → c.loop-piece.piece < piece_count c.args.self.now.shape
unfolding piece_count
more c = omega arith

-- it lies in the table
inside : (c : In-loop-piece) → c.loop-piece.piece * c.args.self.now.shape.block_columns + c.args.self.now.shape.block_columns ≤ length c.loop-piece.table
unfolding piece_count
inside c = omega (arith, row_end c.args.self.now.shape.block_columns (more c), c.requires.1)

pub overflow_mul-start : goal.overflow_mul-start
overflow_mul-start c = let i = inside (goal.at.overflow_mul-start c).In-loop-piece in omega arith

pub overflow_add-end : goal.overflow_add-end
overflow_add-end c = let i = inside (goal.at.overflow_add-end c).In-loop-piece in omega arith

pub piece_sums-requires : goal.piece_sums-requires
piece_sums-requires c = more (goal.at.piece_sums-requires c).In-loop-piece

pub offset_bounds-table-start : goal.offset_bounds-table-start
offset_bounds-table-start c = let i = inside (goal.at.offset_bounds-table-start c).In-loop-piece in omega arith

pub slice_bounds-reduce_row-count : goal.slice_bounds-reduce_row-count
slice_bounds-reduce_row-count c = let i = inside (goal.at.slice_bounds-reduce_row-count c).In-loop-piece in omega arith

pub slice_bounds-reduce_row-start : goal.slice_bounds-reduce_row-start
slice_bounds-reduce_row-start c = let i = inside (goal.at.slice_bounds-reduce_row-start c).In-loop-piece in omega arith

pub slice_bounds-reduce_row-end : goal.slice_bounds-reduce_row-end
slice_bounds-reduce_row-end c = let i = inside (goal.at.slice_bounds-reduce_row-end c).In-loop-piece in omega arith

-- the part of the table that is lent is as long as the piece
piece-length : (c : In-loop-piece)
    → length (take c.args.self.now.shape.block_columns (drop (c.loop-piece.piece * c.args.self.now.shape.block_columns) c.loop-piece.table)) ≡ c.args.self.now.shape.block_columns
piece-length c =
    let l = c.loop-piece in
    let columns = c.args.self.now.shape.block_columns in
    length-take-le columns (drop (l.piece * columns) l.table) (omega (arith, inside c, length-drop (l.piece * columns) l.table))

pub loop-piece-preserved : goal.loop-piece-preserved
loop-piece-preserved c =
    let a = c.args.self.now in
    let loop = c.loop-piece in
    let q = prime a.modulus in
    let columns = a.shape.block_columns in
    let f : ℕ → ℕ = λ v. piece_sum q a.shape a.indices.now a.weights.now a.store.now loop.piece v % 2 ^ 64 in
    let out = take columns (drop (loop.piece * columns) loop.table) in
    let wide : length loop.sums ≡ columns = omega arith in
    let made = rw add-sub_cancel_left at c.reduce_row.ensures in
    let is = made ∙ ap (λ (xs : List ℕ). reduced q xs out) (c.piece_sums.ensures ∙ ap (tab f) wide) ∙ reduced_tab q columns f out (piece-length (goal.at.loop-piece-preserved c).In-loop-piece) in
    rw add-sub_cancel_left
    (rows_more (element a.modulus a.shape a.indices.now a.weights.now a.store.now) c.args.table.now loop.table _ columns loop.piece loop.invariant is)

pub returns : goal.returns
unfolding piece_count pieces_of
returns c =
    let a = c.args.self.now in
    let columns = a.shape.block_columns in
    let f = element a.modulus a.shape a.indices.now a.weights.now a.store.now in
    let all : c.loop-piece.piece ≡ piece_count a.shape = omega arith in
    rows_all f c.args.table.now c.loop-piece.table (piece_count a.shape) columns c.requires.1
    (c.loop-piece.invariant ∙ ap (λ (k : ℕ). grid f k columns ++ drop (k * columns) c.args.table.now) all)
