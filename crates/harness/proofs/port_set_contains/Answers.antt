-- `harness::port_set_contains` meets its contract: the answer by its definition, passed on. Assumes nothing.
use Rattle.boundary.proofs.Back.{passed_on}
use Rattle.boundary.specs.Boundary.{told_left, truth_stored}
use Rattle.harness.proofs.port_set_contains.Goals as goal

pub returns : goal.returns
returns c = passed_on (told_left truth_stored) c.contains.ensures c.judged.ensures
