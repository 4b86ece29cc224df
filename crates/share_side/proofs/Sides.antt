-- Laws of sides, and of the tests of a side's matrix and masks.
--
--   plan_side_lem        the side by an accepted job's plan is the job's
--   side_small       a side of an accepted job keeps the limits
--   block_listed, mask_listed   where the list of a side's exponents has those of a block and of a mask
--   Passed, passed   what the tests 13 to 15 tell, once they have passed
use mathlib.Core.Path.{◌≡◌, refl, sym, ap, ◌∙◌}
use mathlib.Core.Bool.{not, ◌||◌}
use mathlib.Core.List.{List, ◌++◌}
use Prim.Native.Nat.{ℕ, ◌+◌, ◌*◌, ◌<◌}
use native.Mathlib.Omega.{arith}
use lib.Arith.{digits_lt}
use lib.ListN.{length, get_or, get_or-append}
use lib.Seq.{get_or-append-add}
use borrow.Author.Tests.{not-false}
use Rattle.algebra.specs.Lists.{tab, grid, AllBelow, all_below}
use Rattle.algebra.proofs.Lists.{get_or_tab, all_below_test}
use Rattle.algebra.proofs.Grids.{length_grid, get_or_grid}
use Rattle.algebra.proofs.Tests.{or_all, equal}
use Rattle.refusal.specs.Chain.{first, differs}
use Rattle.refusal.proofs.Chains.{first_clear}
use Rattle.layout.specs.Exponents.{Exponents, term}
use Rattle.plan.specs.declared.Job.{Job}
use Rattle.plan.specs.Planning.{parameters, plan_of}
use Rattle.plan.proofs.Facts.{Fits}
use Rattle.plan.proofs.Sizes.{sizes}
use Rattle.share_side.specs.declared.Matrix.{Matrix}
use Rattle.share_side.specs.declared.Matrix.TheVariants.{A, B}
use Rattle.share_side.specs.declared.Side.{Side}
use Rattle.share_side.specs.Sides.{side, side_exponents, block_length, matrix_length, mask_length, matrix_tests}
use Rattle.share_side.specs.Internal.{plan_side, Small}

pub plan_side_lem : (m : Matrix) (job : Job) → plan_side m (plan_of job) ≡ side m job
unfolding plan_side side plan_of
plan_side_lem m job = refl

pub side_small : (m : Matrix) (job : Job) → Fits job → Small (side m job)
unfolding side parameters
side_small A job f =
    let r = f.ranged in
    let size = sizes job f in
    record {
      grid_rows = r.m.high;
      grid_columns = r.p.high;
      rows_in_block = size.rows.high;
      columns_in_block = size.inner.high;
      block = f.block_a;
      masked = r.xa.low;
      mask_count = r.xa.high;
    }
side_small B job f =
    let r = f.ranged in
    let size = sizes job f in
    record {
      grid_rows = r.p.high;
      grid_columns = r.n.high;
      rows_in_block = size.inner.high;
      columns_in_block = size.columns.high;
      block = f.block_b;
      masked = r.xb.low;
      mask_count = r.xb.high;
    }

-- ---- the list of a side's exponents

module _ (e : Exponents) (s : Side) where
  -- those of the blocks
  blocks : List ℕ
  blocks = grid (term e s.blocks) s.grid_rows s.grid_columns

  -- those of the masks
  masks : List ℕ
  masks = tab (term e s.masks 0) s.mask_count

  long : length blocks ≡ s.grid_rows * s.grid_columns
  unfolding blocks
  long = length_grid (term e s.blocks) s.grid_rows s.grid_columns

  pub block_listed : (k l : ℕ) → k < s.grid_rows → l < s.grid_columns
      → get_or (side_exponents e s) (k * s.grid_columns + l) 0 ≡ term e s.blocks k l
  unfolding side_exponents blocks masks
  block_listed k l hk hl =
      get_or-append blocks masks 0 (k * s.grid_columns + l) (omega (arith, long, digits_lt hk hl))
      ∙ get_or_grid (term e s.blocks) s.grid_rows s.grid_columns k l 0 hk hl

  pub mask_listed : (y : ℕ) → y < s.mask_count → get_or (side_exponents e s) (s.grid_rows * s.grid_columns + y) 0 ≡ term e s.masks 0 y
  unfolding side_exponents blocks masks
  mask_listed y h =
      ap (λ (n : ℕ). get_or (blocks ++ masks) (n + y) 0) (sym long)
      ∙ get_or-append-add blocks masks y 0
      ∙ get_or_tab (term e s.masks 0) s.mask_count y 0 h

-- ---- the tests of a side's matrix and masks

pub record Passed (q : ℕ) (s : Side) (xs ms : List ℕ) (room : ℕ) : Type 0 where
  pub matrix : length xs ≡ matrix_length s
  pub masks : length ms ≡ mask_length s
  pub block : room ≡ block_length s
  pub below_matrix : AllBelow q xs
  pub below_masks : AllBelow q ms

pub passed : (q : ℕ) (s : Side) (xs ms : List ℕ) (room : ℕ) → first (matrix_tests q s xs ms room) ≡ 0 → Passed q s xs ms room
unfolding matrix_tests
passed q s xs ms room e =
    let matrix = differs (length xs) (matrix_length s) in
    let masks = differs (length ms) (mask_length s) in
    let block = differs room (block_length s) in
    let lengths = first_clear (matrix || masks || block) 12 _ e in
    let elements = first_clear (not (all_below q xs)) 13 _ lengths.1 in
    let below = first_clear (not (all_below q ms)) 14 _ elements.1 in
    let each = or_all matrix masks block lengths.0 in
    record {
      matrix = equal _ _ each.0;
      masks = equal _ _ each.1;
      block = equal _ _ each.2;
      below_matrix = all_below_test q xs (not-false (all_below q xs) elements.0);
      below_masks = all_below_test q ms (not-false (all_below q ms) below.0);
    }
