-- `listing_steps::place` meets its contract: numbers up to a million are the same as 32-bit coordinates. Assumes nothing.
use Rattle.listing_steps.proofs.Walking.{coordinate}
use Rattle.listing_steps.proofs.place.Goals as goal

pub returns : goal.returns
returns c = rw (coordinate c.requires.0, coordinate c.requires.1)
