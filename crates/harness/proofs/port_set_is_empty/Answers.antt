-- `harness::port_set_is_empty` meets its contract: the answer by its definition, passed on. Assumes nothing.
use Rattle.boundary.proofs.Back.{passed_on}
use Rattle.boundary.specs.Boundary.{told_left, truth_stored}
use Rattle.harness.proofs.port_set_is_empty.Goals as goal

pub returns : goal.returns
returns c = passed_on (told_left truth_stored) c.is_empty.ensures c.judged.ensures
