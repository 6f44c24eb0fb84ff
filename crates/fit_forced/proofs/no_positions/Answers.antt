-- `fit_forced::no_positions` meets its contract, by evaluation: eight entries that are 0 are the padding of no position. Assumes nothing.
use mathlib.Core.Path.{refl}
use Rattle.rules.specs.Forced.{positions_of, padded}
use Rattle.fit_forced.proofs.no_positions.Goals as goal

pub returns : goal.returns
unfolding positions_of padded
returns c = refl
