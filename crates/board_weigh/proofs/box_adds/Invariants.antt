-- `board_weigh::box_adds` meets its contract: a loop that adds up along the rows. Assumes nothing.
use Rattle.board_weigh.specs.Added.{row_adds}
use Rattle.board_weigh.proofs.Adding.{Adding}
use Rattle.board_weigh.proofs.box_adds.Given as goal

abbrev pub invariant-loop-row : goal.invariant-loop-row
invariant-loop-row l = Adding l.spans.rows (row_adds l.pieces l.cols l.cell l.spans.cols) l.sum l.row
