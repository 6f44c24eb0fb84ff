-- `fit_forced::forced_round` meets its contract: before each turn the positions are those of the neighbours passed. Assumes nothing.
use mathlib.Core.Path.{◌≡◌}
use Rattle.rules.specs.Grid.{flat}
use Rattle.rules.specs.Forced.{positions_of}
use Rattle.fit_forced.proofs.Round.{found_before}
use Rattle.fit_forced.proofs.forced_round.Given as goal

abbrev pub invariant-loop-d : goal.invariant-loop-d
invariant-loop-d l = l.found ≡ positions_of (found_before flat l.pieces l.rows l.cols l.tiles l.count l.place l.offset l.bounds l.d-index)
