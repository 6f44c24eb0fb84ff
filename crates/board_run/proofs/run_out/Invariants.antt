-- `board_run::run_out` meets its contract. The loop's invariant: numbers, planes and entries are those of the run after so many steps as
-- entries were taken.
-- Assumes nothing.
use Prim.Native.Nat.{◌-◌}
use Rattle.rules.specs.Promises.{board, panel}
use Rattle.board_run.proofs.Looping.{Looping}
use Rattle.board_run.proofs.run_out.Given as goal

abbrev pub invariant-loop-offset : goal.invariant-loop-offset
invariant-loop-offset l =
    Looping (panel l.rows l.cols l.tiles l.offset) l.count l.bounds (board l.initial.pieces l.initial.weights l.initial.counts) l.initial.queue l.initial.state l.budget
    (board l.pieces l.weights l.counts) l.queue l.state

abbrev pub decreases-loop-offset : goal.decreases-loop-offset
decreases-loop-offset l = l.budget - l.state.taken
