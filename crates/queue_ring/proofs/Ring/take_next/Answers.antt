-- `queue_ring::Ring::take_next` meets its contract: there is none, or the first one stands in the first slot. Assumes nothing.
use native.Mathlib.Omega.{arith}
use Rattle.queue_ring.proofs.Slots.{out_none, out_first}
use Rattle.queue_ring.proofs.Ring.take_next.Goals as goal

pub returns-then-self-eq0 : goal.returns-then-self-eq0
returns-then-self-eq0 c = out_none _ _ _ _ c.self.view_is c.if-self-eq0.true

pub returns : goal.returns
returns c = out_first _ _ _ _ _ c.self.view_is (omega arith) c.self.invariant.begins c.slot_of-self-inside.ensures.0 c.entry_in-entry.ensures
