-- `board_weigh::row_adds` meets its contract: a loop that adds up along the span. Assumes nothing.
use Rattle.board_weigh.specs.Added.{added_by}
use Rattle.board_weigh.proofs.Adding.{Adding}
use Rattle.board_weigh.proofs.row_adds.Given as goal

abbrev pub invariant-loop-col : goal.invariant-loop-col
invariant-loop-col l = Adding l.fn.colspan (added_by l.pieces l.cols l.cell l.row) l.sum l.col
