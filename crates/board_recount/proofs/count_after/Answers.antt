-- `board_recount::count_after` meets its contract, by its three ways out. Assumes nothing.
use Rattle.board_recount.proofs.Recounts.{stays-low, stays-right, counted}
use Rattle.board_recount.proofs.count_after.Goals as goal

pub returns-then-rows-row : goal.returns-then-rows-row
returns-then-rows-row c = stays-low _ _ _ _ _ _ _ c.requires.1.colwise c.if-rows-row.true

pub returns-then-cols-col : goal.returns-then-cols-col
returns-then-cols-col c = stays-right _ _ _ _ _ _ _ c.requires.1.colwise c.if-cols-col.true

pub returns : goal.returns
returns c = counted _ _ _ _ _ _ _ c.requires.1.colwise _ c.if-rows-row.false c.if-cols-col.false c.fit_count_at.ensures
