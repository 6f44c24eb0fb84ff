-- `place_boxes::contains` meets its contract: each exit answers the first check that fails, and the last the verdict.
-- Assumes nothing.
use Rattle.base.proofs.Chain.{chain}
use Rattle.rules.proofs.Answered.{answers}
use Rattle.rules.specs.Places.{box_contains}
use Rattle.place_boxes.proofs.contains.Goals as goal

pub returns-then-not-box_fits : goal.returns-then-not-box_fits
unfolding box_contains
returns-then-not-box_fits c = search (chain, answers) depth 20 fits 5000

pub returns-then-not-on_wall : goal.returns-then-not-on_wall
unfolding box_contains
returns-then-not-on_wall c = search (chain, answers) depth 20 fits 5000

pub returns : goal.returns
unfolding box_contains
returns c = search (chain, answers) depth 20 fits 5000
