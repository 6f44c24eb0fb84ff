-- `queue::checks::all_on_wall` meets its contract. The loop's invariant: the entries passed, and those from the loop's index on, are on
-- the wall exactly if all are.
-- Assumes nothing.
use Rattle.queue.proofs.Wall.{wall-turn, wall-end}
use Rattle.queue.proofs.checks.all_on_wall.Goals as goal

pub loop-entry-preserved : goal.loop-entry-preserved
loop-entry-preserved c = wall-turn c.args.entries.now _ c.loop-entry.fine _ c.loop-entry.invariant c.loop-entry-test.true c.on_wall-fine.ensures

pub returns : goal.returns
returns c = wall-end c.args.entries.now _ _ c.loop-entry.invariant c.loop-entry-test.false
