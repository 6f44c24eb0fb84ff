-- `listing_lines::put_cell` meets its contract: the number of the cell, and the gap after it, by `cell-is`. Assumes nothing.
use Rattle.listing_lines.proofs.Texts.{cell-is}
use Rattle.listing_lines.proofs.put_cell.Goals as goal

pub returns : goal.returns
returns c = cell-is _ _ _ _ c.above.ensures c.gap_after.ensures c.put_number-next.ensures c.put.ensures
