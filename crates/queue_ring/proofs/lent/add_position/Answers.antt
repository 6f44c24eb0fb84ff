-- `queue_ring::lent::add_position` meets its contract: its three exits are the three ways of adding one.
-- Assumes nothing.
use mathlib.Core.Path.{sym, ◌∙◌}
use native.Mathlib.Omega.{arith}
use Rattle.queue_ring.proofs.Grown.{grows-old, grows_none, grows-new}
use Rattle.queue_ring.proofs.lent.add_position.Goals as goal

pub returns-then-is_queued : goal.returns-then-is_queued
returns-then-is_queued c =
    grows-old _ _ _ _ c.requires (sym (c.is_queued.ensures _) ∙ c.if-is_queued.true)

pub returns-then-len-eq-QUEUE_ROOM : goal.returns-then-len-eq-QUEUE_ROOM
returns-then-len-eq-QUEUE_ROOM c =
    grows_none _ _ _ _ c.requires (sym (c.is_queued.ensures _) ∙ c.if-is_queued.false) c.if-len-eq-QUEUE_ROOM.true

pub returns : goal.returns
returns c =
    let put = c.put_entry.ensures in
    grows-new _ _ _ _ c.requires (sym (c.is_queued.ensures _) ∙ c.if-is_queued.false)
    (omega (arith, c.requires.in-room, c.if-len-eq-QUEUE_ROOM.false))
    _ c.slot_of-at.ensures.0 _ _ _ put.0 put.1 put.2
