-- `listing_end::put_planes` meets its contract: three planes under their headings, one after the other. Assumes nothing.
use Rattle.listing_lines.proofs.Written.{writes_then}
use Rattle.listing_end.specs.Ending.{planes_text}
use Rattle.listing_end.proofs.put_planes.Goals as goal

pub returns : goal.returns
unfolding planes_text
returns c = writes_then (writes_then c.put_headed-second.ensures c.put_headed-third.ensures) c.put_headed.ensures
