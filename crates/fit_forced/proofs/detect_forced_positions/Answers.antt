-- `fit_forced::detect_forced_positions` meets its contract: the checks, then the round. Assumes nothing.
use mathlib.Core.Path.{sym}
use Rattle.base.proofs.Chain.{chain}
use Rattle.rules.specs.Forced.{forced_neighbours}
use Rattle.rules.proofs.Answered.{answers, handed_to, passed}
use Rattle.fit_forced.proofs.Accepted.{roundable}
use Rattle.fit_forced.proofs.detect_forced_positions.Goals as goal

pub returns-in_err-check_forced : goal.returns-in_err-check_forced
unfolding forced_neighbours
returns-in_err-check_forced c = handed_to c.from_residual.ensures (search (chain, answers, c.in_err-check_forced.was) depth 20 fits 5000)

pub forced_round-requires : goal.forced_round-requires
forced_round-requires c = roundable _ _ _ _ _ _ _ _ (sym (passed _ _ c.check_forced.ensures c.in_ok-check_forced.was))

pub returns : goal.returns
unfolding forced_neighbours
returns c = search (chain, answers, passed _ _ c.check_forced.ensures c.in_ok-check_forced.was) depth 20 fits 5000
