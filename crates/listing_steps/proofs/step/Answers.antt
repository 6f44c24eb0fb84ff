-- `listing_steps::step` meets its contract: the step is taken, and its answer written on a line of its own. Assumes nothing.
use Rattle.listing_steps.proofs.Walking.{stepped}
use Rattle.listing_steps.proofs.step.Goals as goal

pub returns : goal.returns
returns c = stepped _ _ _ _ c.take_step.ensures c.written-no.ensures c.put_number_line.ensures
