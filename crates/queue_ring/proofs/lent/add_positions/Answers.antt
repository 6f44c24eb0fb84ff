-- `queue_ring::lent::add_positions` meets its contract. The loop's invariant: what is still to be added to the entries so far gives what all
-- the positions give, and the entries that waited stand as they did.
-- Assumes nothing.
use Rattle.rules.specs.Forced.{offered, no_position}
use Rattle.queue_ring.proofs.Grown.{adding-from, adding-on, adding-too-far, adding-end}
use Rattle.queue_ring.proofs.lent.add_positions.Goals as goal

pub loop-position-init : goal.loop-position-init
loop-position-init c = adding-from _ _ _ _ c.requires.0

pub returns-in_default : goal.returns-in_default
unfolding offered
returns-in_default c =
    adding-too-far _ _ _ _ _ _ _ no_position c.loop-position-test.true c.loop-position.invariant _ _ c.add_position-answer.ensures _ c.in_default.is

pub loop-position-preserved : goal.loop-position-preserved
loop-position-preserved c =
    adding-on _ _ _ _ _ _ _ no_position c.loop-position-test.true c.loop-position.invariant _ _ c.add_position-answer.ensures _ c.in-Ok.is

pub returns : goal.returns
unfolding offered
returns c = adding-end _ _ _ _ _ _ _ c.loop-position-test.false c.loop-position.invariant
