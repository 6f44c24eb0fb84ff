-- `queue_ring::Ring::add_positions` meets its contract: what the adding to the arrays says of the entries that wait in them.
-- Assumes nothing.
use mathlib.Core.Path.{refl}
use Rattle.queue_ring.proofs.Growing.{grows-few, grows-adds}
use Rattle.queue_ring.proofs.Ring.add_positions.Goals as goal

pub add_positions-requires : goal.add_positions-requires
add_positions-requires c = (c.self.invariant, c.requires)

pub invariant_of-self-2 : goal.invariant_of-self-2
invariant_of-self-2 c =
    record {
      shaped = c.add_positions.ensures.shaped;
      begins = c.self.invariant.begins;
      in-room = grows-few _ _ _ c.self.view_is _ _ c.add_positions.ensures c.in_ok-self-inside.field-0 c.in_ok-self-inside.was;
    }

pub returns : goal.returns
returns c = grows-adds _ _ _ c.self.view_is _ _ c.add_positions.ensures c.in_ok-self-inside.field-0 c.in_ok-self-inside.was refl
