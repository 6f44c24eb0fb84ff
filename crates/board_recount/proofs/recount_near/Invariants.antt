-- `board_recount::recount_near` meets its contract: a sweep over the rows of the spans. Assumes nothing.
use Rattle.base.proofs.Regions.{RowsDone}
use Rattle.rules.specs.Grid.{flat}
use Rattle.board_recount.specs.Recounted.{recounted_by}
use Rattle.board_recount.proofs.recount_near.Given as goal

abbrev pub invariant-loop-row : goal.invariant-loop-row
invariant-loop-row l =
    RowsDone 0 (recounted_by (flat l.rows l.cols) l.cols l.tiles l.pieces) l.cols l.spans.rows.0 l.spans.rows.1 l.spans.cols.0 l.spans.cols.1 l.initial.counts l.counts l.row
