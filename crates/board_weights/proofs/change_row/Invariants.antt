-- `board_weights::change_row` meets its contract: a sweep along the row. Assumes nothing.
use Rattle.base.proofs.Sweep.{Sweep}
use Rattle.base.proofs.Regions.{entry_then}
use Rattle.board_weights.specs.Shares.{changed_by}
use Rattle.board_weights.proofs.change_row.Given as goal

abbrev pub invariant-loop-j : goal.invariant-loop-j
invariant-loop-j g l = Sweep 0 (entry_then 0 (changed_by g.S.Step.becomes l.cell) l.row l.left l.initial.part) l.initial.part l.part l.j
