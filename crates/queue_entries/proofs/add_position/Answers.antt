-- `queue_entries::add_position` meets its contract: its three exits are the three ways of adding one.
-- Assumes nothing.
use mathlib.Core.Path.{sym, ◌∙◌}
use native.Mathlib.Omega.{arith}
use Rattle.queue_entries.proofs.Growth.{adds-old, adds_none, adds-new}
use Rattle.queue_entries.proofs.add_position.Goals as goal

pub returns-then-is_queued : goal.returns-then-is_queued
returns-then-is_queued c = adds-old _ _ c.requires (sym c.is_queued.ensures ∙ c.if-is_queued.true)

pub returns-then-queue-eq-QUEUE_ROOM : goal.returns-then-queue-eq-QUEUE_ROOM
returns-then-queue-eq-QUEUE_ROOM c =
    adds_none _ _ c.requires (sym c.is_queued.ensures ∙ c.if-is_queued.false) c.if-queue-eq-QUEUE_ROOM.true

pub returns : goal.returns
returns c =
    adds-new _ _ c.requires (sym c.is_queued.ensures ∙ c.if-is_queued.false) (omega (arith, c.requires.in-room, c.if-queue-eq-QUEUE_ROOM.false))
