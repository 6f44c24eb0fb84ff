-- `check_sizes::tile_number_fits` meets its contract: it is its callee's. Assumes nothing.
use Rattle.rules.specs.Tests.{tile_number_fits}
use Rattle.check_sizes.proofs.tile_number_fits.Goals as goal

pub returns : goal.returns
unfolding tile_number_fits
returns c = c.within_bounds.ensures
