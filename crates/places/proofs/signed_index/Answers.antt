-- `places::signed_index` meets its contract: two numbers of 32 bits have a sum of 64.
-- Assumes nothing.
use Rattle.base.proofs.Signs.{add-fits, added}
use Rattle.places.proofs.Wide.{widened, cast_fits}
use Rattle.places.proofs.signed_index.Goals as goal

pub overflow_cast-result : goal.overflow_cast-result
overflow_cast-result c = cast_fits c.ranges.coordinate

pub overflow_cast-result-2 : goal.overflow_cast-result-2
overflow_cast-result-2 c = cast_fits c.ranges.offset

pub overflow_add-result : goal.overflow_add-result
overflow_add-result c = add-fits (widened c.ranges.coordinate) (widened c.ranges.offset) tt

pub returns : goal.returns
returns c = (added (widened c.ranges.coordinate) (widened c.ranges.offset) tt).is
