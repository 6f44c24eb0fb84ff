-- `check_contents::check_colours` meets its contract: each exit answers the first check that fails. Assumes nothing.
use Rattle.base.proofs.Chain.{chain}
use Rattle.rules.proofs.Answered.{answers}
use Rattle.check_contents.proofs.check_colours.Goals as goal

pub returns-then-not-colour_count : goal.returns-then-not-colour_count
returns-then-not-colour_count c = search (chain, answers) depth 20 fits 5000

pub returns-then-not-no_byte_above : goal.returns-then-not-no_byte_above
returns-then-not-no_byte_above c = search (chain, answers) depth 20 fits 5000

pub returns-then-not-pieces_stored : goal.returns-then-not-pieces_stored
returns-then-not-pieces_stored c = search (chain, answers) depth 20 fits 5000

pub returns : goal.returns
returns c = search (chain, answers) depth 20 fits 5000
