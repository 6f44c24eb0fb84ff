-- `tile_forms::reflect` meets its contract: by computation. Assumes nothing.
use mathlib.Core.Path.{refl}
use Rattle.base.specs.Tables.{tab}
use Rattle.rules.specs.Tiles.{reflected}
use Rattle.tile_forms.proofs.reflect.Goals as goal

pub returns : goal.returns
unfolding tab reflected
returns c = refl
