-- `harness_forced::slices::put_entries` meets its contract. The loop's invariant: the first i entries are stored. Assumes nothing.
use Rattle.harness_forced.proofs.Crossing.{none-stored, one-stored, keeps-places, keeps-colours, all-stored}
use Rattle.harness_forced.proofs.slices.put_entries.Goals as goal

pub loop-i-init : goal.loop-i-init
loop-i-init c = none-stored _ _ _

pub loop-i-preserved : goal.loop-i-preserved
loop-i-preserved c = one-stored _ _ _ _ c.loop-i.invariant c.put_entry.ensures

pub shape_of-coordinates : goal.shape_of-coordinates
shape_of-coordinates c = keeps-places _ _ _ _ c.loop-i.invariant

pub shape_of-colours : goal.shape_of-colours
shape_of-colours c = keeps-colours _ _ _ _ c.loop-i.invariant

pub returns : goal.returns
returns c = all-stored _ _ _ _ _ _ _ c.loop-i.auto.i-end c.loop-i-test.false c.loop-i.invariant c.put.ensures
