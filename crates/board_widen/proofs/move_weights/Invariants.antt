-- `board_widen::move_weights` meets its contract: a sweep, in which each entry becomes its weight. Assumes nothing.
use Rattle.base.proofs.Sweep.{Sweep}
use Rattle.board_widen.specs.Wide.{weight_after}
use Rattle.board_widen.proofs.move_weights.Given as goal

abbrev pub invariant-loop-k : goal.invariant-loop-k
invariant-loop-k l = Sweep 0 (weight_after l.widepieces l.weights l.rows l.cols l.pads) l.initial.wideweights l.wideweights l.k
