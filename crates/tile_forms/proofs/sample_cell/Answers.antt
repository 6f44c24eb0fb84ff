-- `tile_forms::sample_cell` meets its contract: the cell of the plane, or past its last row or its last column. Assumes nothing.
use Rattle.tile_forms.proofs.Variants.{cell_below, cell-right, cell-there}
use Rattle.tile_forms.proofs.sample_cell.Goals.{else-r-rows-via-then-r-rows+else-c-cols, else-r-rows-via-else-r-rows}
use Rattle.tile_forms.proofs.sample_cell.Goals as goal

pub returns-then-c-cols : goal.returns-then-c-cols
returns-then-c-cols c = cell-there _ _ _ _ _ c.if-r-rows.true c.if-c-cols.true

pub returns-else-r-rows : goal.returns-else-r-rows
returns-else-r-rows c =
    elim c.else-r-rows.branch [ else-r-rows-via-then-r-rows+else-c-cols w ↦ cell-right _ _ _ _ _ w.if-c-cols.false | else-r-rows-via-else-r-rows w ↦ cell_below _ _ _ _ _ w.if-r-rows.false ]
