-- `probability_checks::check_step` meets its contract: the sizes first, then each exit answers the first check that fails.
-- Assumes nothing.
use Rattle.base.proofs.Chain.{chain}
use Rattle.rules.proofs.Answered.{answers, handed_to, passed, then-part}
use Rattle.probability_checks.proofs.check_step.Goals as goal

pub returns-in_err-check_influence : goal.returns-in_err-check_influence
returns-in_err-check_influence c = handed_to c.from_residual.ensures (search (chain, answers, c.in_err-check_influence.was) depth 20 fits 5000)

pub returns-then-not-all_finite : goal.returns-then-not-all_finite
returns-then-not-all_finite c = search (chain, answers, passed _ _ c.check_influence.ensures c.in_ok-check_influence.was) depth 20 fits 5000

pub returns-then-not-all_finite-2 : goal.returns-then-not-all_finite-2
returns-then-not-all_finite-2 c = search (chain, answers, passed _ _ c.check_influence.ensures c.in_ok-check_influence.was) depth 20 fits 5000

pub returns : goal.returns
returns c = search (chain, then-part, passed _ _ c.check_influence.ensures c.in_ok-check_influence.was) depth 20 fits 5000
