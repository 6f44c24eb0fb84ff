-- `board_recount::recount_row` meets its contract: a sweep along the row. Assumes nothing.
use Rattle.base.proofs.Sweep.{Sweep}
use Rattle.base.proofs.Regions.{entry_then}
use Rattle.rules.specs.Grid.{flat}
use Rattle.board_recount.specs.Recounted.{recounted_by}
use Rattle.board_recount.proofs.recount_row.Given as goal

abbrev pub invariant-loop-j : goal.invariant-loop-j
invariant-loop-j l = Sweep 0 (entry_then 0 (recounted_by (flat l.rows l.cols) l.cols l.tiles l.pieces) l.row l.left l.initial.part) l.initial.part l.part l.j
