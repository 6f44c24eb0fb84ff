-- `probabilities::revert_probabilities` meets its contract, which is that of the step it calls. Assumes nothing.
use Rattle.rules.specs.Probabilities.{divided}
use Rattle.probabilities.specs.Calls.{stepped}
use Rattle.probabilities.proofs.revert_probabilities.Goals as goal

pub returns : goal.returns
unfolding stepped divided
returns c = c.change_probabilities.ensures
