-- `queue_entries::add_positions` meets its contract. The loop's invariant: the queue so far is tidy, and what is still to be added to
-- it gives what all the positions give.
-- Assumes nothing.
use native.Mathlib.Omega.{arith}
use Rattle.rules.specs.Forced.{offered, no_position}
use Rattle.queue_entries.proofs.Entries.{length-queued}
use Rattle.queue_entries.proofs.Growth.{grows_from, grows-on, grows-too-far, grows_end}
use Rattle.queue_entries.proofs.add_positions.Goals as goal

pub loop-position-init : goal.loop-position-init
loop-position-init c =
    let q = c.args.queue in
    grows_from q _ _ c.rest_from-grown.ensures (omega (arith, length-queued q (omega (arith, c.well_formed)) c.requires.in-room))

pub returns-in-Err : goal.returns-in-Err
unfolding offered
returns-in-Err c = grows-too-far c.args.queue _ _ _ no_position c.loop-position-test.true c.loop-position.invariant c.in-Err.ensures

pub loop-position-preserved : goal.loop-position-preserved
loop-position-preserved c =
    grows-on c.args.queue _ _ _ no_position c.loop-position-test.true c.loop-position.invariant c.in_default.ensures

pub returns : goal.returns
unfolding offered
returns c = grows_end c.args.queue _ _ _ c.loop-position-test.false c.loop-position.invariant
