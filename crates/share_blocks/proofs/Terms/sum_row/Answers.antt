-- `share_blocks::Terms::sum_row` meets its contract.
use Rattle.share_blocks.proofs.Rows.{row_sums_lem}
use Rattle.share_blocks.proofs.Terms.sum_row.Goals as goal

pub returns : goal.returns
returns c = row_sums_lem _ _ _ _ _ _ _ _ _ _ c.clear.ensures c.add_blocks.ensures c.add_masks.ensures
