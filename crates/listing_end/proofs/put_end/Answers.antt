-- `listing_end::put_end` meets its contract: the planes, and after them what the scan found, whose cell lies on the board. Assumes nothing.
use Rattle.listing_lines.proofs.Written.{writes_then}
use Rattle.listing_end.proofs.Scanned.{dead-end-near, end_is}
use Rattle.listing_end.proofs.put_end.Goals as goal

pub put_scan-requires : goal.put_scan-requires
put_scan-requires c = dead-end-near _ _ _ _ _ _ _ c.requires c.check_for_contradiction-found.ensures

pub returns : goal.returns
returns c = end_is _ _ _ c.check_for_contradiction-found.ensures (writes_then c.put_planes-next.ensures c.put_scan.ensures)
