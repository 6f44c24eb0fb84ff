-- `place_spans::check_region` meets its contract: each exit answers the first check that fails.
-- Assumes nothing.
use Rattle.base.proofs.Chain.{chain}
use Rattle.rules.proofs.Answered.{answers}
use Rattle.place_spans.proofs.check_region.Goals as goal

pub returns-then-radius-gt-MAX_RADIUS : goal.returns-then-radius-gt-MAX_RADIUS
returns-then-radius-gt-MAX_RADIUS c = search (chain, answers) depth 20 fits 5000

pub returns-then-not-on_wall : goal.returns-then-not-on_wall
returns-then-not-on_wall c = search (chain, answers) depth 20 fits 5000

pub returns-then-not-offset_fits : goal.returns-then-not-offset_fits
returns-then-not-offset_fits c = search (chain, answers) depth 20 fits 5000

pub returns : goal.returns
returns c = search (chain, answers) depth 20 fits 5000
