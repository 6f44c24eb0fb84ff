-- `harness_tiles::lent::tile_of` meets its contract: the loop fills the table entry by entry. Assumes nothing.
use mathlib.Core.Path.{◌∙◌}
use native.Mathlib.Omega.{arith}
use Rattle.base.proofs.Swept.{swept_none, swept-turn, swept_all}
use Rattle.harness_tiles.specs.Lent.{nine_of}
use Rattle.harness_tiles.proofs.lent.tile_of.Goals as goal

pub loop-k-init : goal.loop-k-init
loop-k-init c = swept_none 0 _ _

pub loop-k-preserved : goal.loop-k-preserved
loop-k-preserved c = swept-turn 0 _ _ _ _ _ (omega arith) c.loop-k.invariant c.byte_at.ensures

pub returns : goal.returns
unfolding nine_of
returns c = c.loop-k.invariant ∙ swept_all 0 _ _ _ (omega arith)
