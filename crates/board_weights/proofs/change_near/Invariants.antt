-- `board_weights::change_near` meets its contract: a sweep over the rows of the spans. Assumes nothing.
use Rattle.base.proofs.Regions.{RowsDone}
use Rattle.board_weights.specs.Shares.{changed_by}
use Rattle.board_weights.proofs.change_near.Given as goal

abbrev pub invariant-loop-row : goal.invariant-loop-row
invariant-loop-row g l =
    RowsDone 0 (changed_by g.S.Step.becomes l.cell) l.cols l.spans.rows.0 l.spans.rows.1 l.spans.cols.0 l.spans.cols.1 l.initial.weights l.weights l.row
