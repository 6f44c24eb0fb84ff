-- `places::on_wall` meets its contract: both numbers lie in the range.
-- Assumes nothing.
use native.Mathlib.Omega.{arith}
use Rattle.rules.specs.Tests.{on_wall}
use Rattle.places.proofs.Wide.{same}
use Rattle.places.proofs.on_wall.Goals as goal

pub returns : goal.returns
unfolding on_wall
returns c =
    let z = c.args.place in
    rw (same {z = z.0} (omega arith), same {z = z.1} (omega arith)) at c.both_in_range.ensures
