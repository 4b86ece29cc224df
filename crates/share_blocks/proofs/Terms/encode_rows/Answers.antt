-- `share_blocks::Terms::encode_rows` meets its contract.
use mathlib.Core.Path.{◌≡◌, ap, ◌∙◌}
use mathlib.Core.List.{List, ◌++◌}
use Prim.Native.Nat.{ℕ, ◌+◌, ◌-◌, ◌*◌, ◌^◌, ◌%◌}
use native.Mathlib.Nat.{add-sub_cancel_left}
use native.Mathlib.Omega.{arith}
use lib.ListN.{length, take, drop, replicate, length-replicate}
use lib.Seq.{length-take-le}
use Rattle.algebra.specs.Lists.{tab, grid}
use Rattle.algebra.proofs.Grids.{rows_none, rows_more, rows_all}
use Rattle.field.specs.Modulus.{prime}
use Rattle.sums.specs.Internal.{reduced}
use Rattle.sums.proofs.Reduced.{reduced_tab}
use Rattle.share_side.specs.Sides.{block_length}
use Rattle.share_side.proofs.Parts.{part_length}
use Rattle.share_blocks.specs.Internal.{row_sums, encoded_block}
use Rattle.share_blocks.proofs.Offsets.{block_row}
use Rattle.share_blocks.proofs.Terms.encode_rows.Invariants.{element}
use Rattle.share_blocks.proofs.Terms.encode_rows.Goals as goal
use Rattle.share_blocks.proofs.Terms.encode_rows.Goals.{In-loop-i}

pub loop-i-init : goal.loop-i-init
loop-i-init g c = rows_none _ c.args.out.now c.args.self.now.side.block_columns

pub slice_bounds-reduce_row-end : goal.slice_bounds-reduce_row-end
slice_bounds-reduce_row-end g c =
    let t = c.args.self.now in
    omega (arith, block_row t.side t.encodable.small _ _ c.loop-i-test.true (c.loop-i.auto.out ∙ c.requires.block))

pub loop-i-preserved : goal.loop-i-preserved
loop-i-preserved g c =
    let t = c.args.self.now in
    let i = c.loop-i.i in
    let columns = t.side.block_columns in
    let part = take (i * columns + columns - i * columns) (drop (i * columns) c.loop-i.out) in
    let row = block_row t.side t.encodable.small i _ c.loop-i-test.true (c.loop-i.auto.out ∙ c.requires.block) in
    let f : ℕ → ℕ = λ j. row_sums (prime t.modulus) t.side t.weights.now t.xs.now t.masks.now i j % 2 ^ 64 in
    let wide : length c.loop-i.sums ≡ columns
    = c.loop-i.auto.sums ∙ length-take-le columns (replicate g.row.SUMS 0) (omega (arith, length-replicate {A = ℕ} g.row.SUMS 0)) in
    rw add-sub_cancel_left (rows_more (element t) c.args.out.now c.loop-i.out _ columns i c.loop-i.invariant
    (c.reduce_row.ensures
    ∙ ap (λ (z : List ℕ). reduced (prime t.modulus) z part) (c.sum_row.ensures ∙ ap (tab f) wide)
    ∙ reduced_tab (prime t.modulus) columns f part (part_length _ _ _ row)))

pub returns : goal.returns
unfolding block_length encoded_block
returns g c =
    let t = c.args.self.now in
    let all : c.loop-i.i ≡ t.side.block_rows = omega arith in
    rows_all (element t) c.args.out.now c.loop-i.out t.side.block_rows t.side.block_columns c.requires.block
    (c.loop-i.invariant ∙ ap (λ (k : ℕ). grid (element t) k t.side.block_columns ++ drop (k * t.side.block_columns) c.args.out.now) all)
