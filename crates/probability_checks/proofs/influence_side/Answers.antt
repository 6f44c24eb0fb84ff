-- `probability_checks::influence_side` meets its contract: the range has the numbers between its ends. Assumes nothing.
use Rattle.std.proofs.Common.{rules}
use Rattle.base.specs.Counting.{within}
use Rattle.probability_checks.proofs.influence_side.Goals as goal

pub returns : goal.returns
unfolding within
returns c = search rules
