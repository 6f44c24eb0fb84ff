-- `queue::checks::all_on_wall` meets its contract. The loop's invariant: the entries passed, and those from the loop's index on, are on
-- the wall exactly if all are.
-- Assumes nothing.
use Rattle.queue.proofs.Wall.{Walled}
use Rattle.queue.proofs.checks.all_on_wall.Given as goal

abbrev pub invariant-loop-entry : goal.invariant-loop-entry
invariant-loop-entry l = Walled l.entries l.fine l.entry-index
