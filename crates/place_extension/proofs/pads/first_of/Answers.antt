-- `place_extension::pads::first_of` meets its contract: the difference fits 64 bits, and stands for the definition's.
-- Assumes nothing.
use Rattle.base.proofs.Signs.{subbed}
use Rattle.places.proofs.Wide.{widened}
use Rattle.rules.specs.Places.{first_of}
use Rattle.place_extension.proofs.Edges.{zero_is}
use Rattle.place_extension.proofs.pads.first_of.Goals as goal

pub returns : goal.returns
unfolding first_of
returns c = (subbed zero_is (widened c.ranges.offset) tt).is
