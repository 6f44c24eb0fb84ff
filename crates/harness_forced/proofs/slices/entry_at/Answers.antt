-- `harness_forced::slices::entry_at` meets its contract: the entry of the three elements that were read. Assumes nothing.
use Rattle.harness_forced.proofs.Crossing.{entry-is}
use Rattle.harness_forced.proofs.slices.entry_at.Goals as goal

pub returns : goal.returns
returns c =
    let row = c.element in
    let col = c.element-2 in
    entry-is _ _ _ row.result col.result row.type_inv col.type_inv row.ensures col.ensures c.element-3.ensures
