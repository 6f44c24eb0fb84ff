-- `tile_forms::window_tile` meets its contract: the loop fills the table cell by cell. Assumes nothing.
use mathlib.Core.Path.{◌∙◌}
use native.Mathlib.Omega.{arith}
use Rattle.base.proofs.Swept.{swept_none, swept-turn, swept_all}
use Rattle.rules.specs.Tiles.{window_tile}
use Rattle.tile_forms.proofs.window_tile.Goals as goal

pub loop-k-init : goal.loop-k-init
loop-k-init c = swept_none 0 _ _

pub loop-k-preserved : goal.loop-k-preserved
loop-k-preserved c = swept-turn 0 _ _ _ _ _ (omega arith) c.loop-k.invariant c.sample_cell.ensures

pub returns : goal.returns
unfolding window_tile
returns c = c.loop-k.invariant ∙ swept_all 0 _ _ _ (omega arith)
