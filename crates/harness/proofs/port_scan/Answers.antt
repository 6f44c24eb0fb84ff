-- `harness::port_scan` meets its contract: the answer by its definition, passed on. Assumes nothing.
use Rattle.boundary.proofs.Back.{passed_on}
use Rattle.boundary.specs.Boundary.{told_left, dead_end_stored}
use Rattle.harness.proofs.port_scan.Goals as goal

pub returns : goal.returns
returns c = passed_on (told_left dead_end_stored) c.check_for_contradiction.ensures c.scanned.ensures
