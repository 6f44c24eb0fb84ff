-- `tile_forms::rotate_90` meets its contract: by computation. Assumes nothing.
use mathlib.Core.Path.{refl}
use Rattle.base.specs.Tables.{tab}
use Rattle.rules.specs.Tiles.{rotated}
use Rattle.tile_forms.proofs.rotate_90.Goals as goal

pub returns : goal.returns
unfolding tab rotated
returns c = refl
