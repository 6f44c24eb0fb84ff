-- `harness::port_set_intersection` meets its contract: the answer by its definition, passed on. Assumes nothing.
use Rattle.boundary.proofs.Back.{passed_on}
use Rattle.boundary.specs.Boundary.{told_left, set_stored}
use Rattle.harness.proofs.port_set_intersection.Goals as goal

pub returns : goal.returns
returns c = passed_on (told_left set_stored) c.intersection.ensures c.set_given.ensures
