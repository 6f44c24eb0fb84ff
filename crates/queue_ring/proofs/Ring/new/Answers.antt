-- `queue_ring::Ring::new` meets its contract, by evaluation. Assumes nothing.
use mathlib.Core.Path.{refl}
use Rattle.base.specs.Tables.{tab}
use Rattle.queue_ring.specs.Slots.{waiting}
use Rattle.queue_ring.proofs.Ring.new.Goals as goal

pub returns : goal.returns
unfolding waiting tab
returns c = refl
