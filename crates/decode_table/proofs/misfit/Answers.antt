-- `decode_table::misfit` meets its contract.
use mathlib.Core.Path.{sym, ◌∙◌}
use native.Mathlib.Nat.{mul-le-mul}
use native.Mathlib.Omega.{arith}
use Rattle.decode_table.specs.Internal.{block_count, piece_count, misfit, Sized}
use Rattle.decode_table.proofs.Fits.{sizes_told}
use Rattle.decode_table.proofs.misfit.Goals as goal
use Rattle.decode_table.proofs.misfit.Goals.{Else-sizes_test}

pub returns-then-sizes_test : goal.returns-then-sizes_test
unfolding misfit
returns-then-sizes_test c = rw (sym c.sizes_test.ensures, c.if-sizes_test.true)

-- the sizes are in range
sized : (e : Else-sizes_test) → Sized e.args.s e.args.count
sized e = let a = e.args in sizes_told a.s a.count (sym e.sizes_test.ensures ∙ e.if-sizes_test.false)

pub overflow_mul-result : goal.overflow_mul-result
overflow_mul-result c = let z = sized c.before in omega (arith, mul-le-mul z.grid_rows z.grid_columns)

pub overflow_mul-result-2 : goal.overflow_mul-result-2
overflow_mul-result-2 c = let z = sized c.before in omega (arith, mul-le-mul z.few (mul-le-mul z.grid_rows z.grid_columns))

pub overflow_mul-result-3 : goal.overflow_mul-result-3
overflow_mul-result-3 c = let z = sized c.before.before.before in omega (arith, mul-le-mul z.grid_rows z.rows_in_block)

pub overflow_mul-result-4 : goal.overflow_mul-result-4
overflow_mul-result-4 c = let z = sized c.before.before.before.before in omega (arith, mul-le-mul (mul-le-mul z.grid_rows z.rows_in_block) z.grid_columns)

pub overflow_mul-result-5 : goal.overflow_mul-result-5
overflow_mul-result-5 c = let z = sized c.before.before.before.before.before in omega (arith, mul-le-mul (mul-le-mul (mul-le-mul z.grid_rows z.rows_in_block) z.grid_columns) z.columns_in_block)

pub returns : goal.returns
unfolding misfit block_count piece_count
returns c = rw (sym c.sizes_test.ensures, c.if-sizes_test.false)
