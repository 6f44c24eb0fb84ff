-- `probabilities::update_probabilities` meets its contract, which is that of the step it calls. Assumes nothing.
use Rattle.rules.specs.Probabilities.{multiplied}
use Rattle.probabilities.specs.Calls.{stepped}
use Rattle.probabilities.proofs.update_probabilities.Goals as goal

pub returns : goal.returns
unfolding stepped multiplied
returns c = c.change_probabilities.ensures
