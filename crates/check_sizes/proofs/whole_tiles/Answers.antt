-- `check_sizes::whole_tiles` meets its contract, by its two ways out. Assumes nothing.
use mathlib.Core.Path.{refl}
use borrow.Author.Tests.{eq-eqb, ne_eqb}
use Rattle.base.proofs.Bools.{and-go, and-halt}
use Rattle.rules.specs.Tests.{whole_tiles}
use Rattle.check_sizes.proofs.whole_tiles.Goals as goal

pub returns-then-tiles-eq0 : goal.returns-then-tiles-eq0
unfolding whole_tiles
returns-then-tiles-eq0 c = and-go _ _ (eq-eqb _ _ c.before.if-tiles-eq0.true) c.tile_number_fits.ensures

pub returns-else-tiles-eq0 : goal.returns-else-tiles-eq0
unfolding whole_tiles
returns-else-tiles-eq0 c = and-halt _ _ refl (ne_eqb _ _ c.if-tiles-eq0.false)
