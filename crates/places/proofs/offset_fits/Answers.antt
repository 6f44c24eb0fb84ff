-- `places::offset_fits` meets its contract: both numbers lie in the range.
-- Assumes nothing.
use native.Mathlib.Omega.{arith}
use Rattle.rules.specs.Tests.{offset_fits}
use Rattle.places.proofs.Wide.{same}
use Rattle.places.proofs.offset_fits.Goals as goal

pub returns : goal.returns
unfolding offset_fits
returns c =
    let z = c.args.offset in
    rw (same {z = z.0} (omega arith), same {z = z.1} (omega arith)) at c.both_in_range.ensures
