-- `queue_ring::lent::add_positions` meets its contract. The loop's invariant: what is still to be added to the entries so far gives what all
-- the positions give, and the entries that waited stand as they did.
-- Assumes nothing.
use Rattle.queue_ring.specs.Slots.{slots}
use Rattle.queue_ring.proofs.Grown.{Adding}
use Rattle.queue_ring.proofs.lent.add_positions.Given as goal

abbrev pub invariant-loop-position : goal.invariant-loop-position
invariant-loop-position l =
    Adding (slots l.initial.rows l.initial.cols l.initial.colours) l.first l.len l.position-items (slots l.rows l.cols l.colours) l.grown l.position-index
