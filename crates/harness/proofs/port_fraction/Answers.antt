-- `harness::port_fraction` meets its contract: the answer by its definition, passed on. Assumes nothing.
use Rattle.boundary.proofs.Back.{passed_on}
use Rattle.boundary.specs.Boundary.{told_left, value_stored}
use Rattle.harness.proofs.port_fraction.Goals as goal

pub returns : goal.returns
returns c = passed_on (told_left value_stored) c.get_fraction.ensures c.divided.ensures
