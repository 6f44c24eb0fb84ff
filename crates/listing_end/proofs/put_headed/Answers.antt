-- `listing_end::put_headed` meets its contract: the heading, and the plane after it. Assumes nothing.
use Rattle.listing_lines.proofs.Written.{writes_then}
use Rattle.listing_end.proofs.put_headed.Goals as goal

pub returns : goal.returns
returns c = writes_then c.put_text-next.ensures c.put_plane.ensures
