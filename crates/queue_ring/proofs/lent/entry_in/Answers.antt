-- `queue_ring::lent::entry_in` meets its contract: the entry of the three numbers that were read.
-- Assumes nothing.
use Rattle.queue_ring.proofs.Slots.{entry_read}
use Rattle.queue_ring.proofs.lent.entry_in.Goals as goal

pub returns : goal.returns
returns c =
    entry_read _ _ c.number_in-row.result c.number_in-col.result c.number_in-row.type_inv c.number_in-col.type_inv c.number_in-row.ensures c.number_in-col.ensures
