-- `score_mean::term_at` meets its contract: what is summed of the fraction, and a number of tiles that a float has. Assumes nothing.
use Prim.Native.Nat.{◌^◌}
use native.Mathlib.Omega.{arith}
use lib.Dec.{le→leb}
use lib.Ieee.{in_float}
use Rattle.rules.specs.Scores.{fraction}
use Rattle.check_sizes.proofs.Sides.{tiles-most}
use Rattle.score_mean.proofs.term_at.Goals as goal

pub int_to_float-tiles : goal.int_to_float-tiles
unfolding in_float
int_to_float-tiles g c = le→leb c.args.tiles (2 ^ 53) (omega (arith, tiles-most c.args.tiles c.requires.0))

pub returns : goal.returns
unfolding fraction
returns g c = c.of.ensures
