-- `queue_entries::add_positions` meets its contract. The loop's invariant: the queue so far is tidy, and what is still to be added to
-- it gives what all the positions give.
-- Assumes nothing.
use Rattle.queue_entries.proofs.Growth.{Grows}
use Rattle.queue_entries.proofs.add_positions.Given as goal

abbrev pub invariant-loop-position : goal.invariant-loop-position
invariant-loop-position l = Grows l.queue l.position-items l.grown l.position-index
