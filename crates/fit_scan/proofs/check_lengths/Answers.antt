-- `fit_scan::check_lengths` meets its contract: each exit answers the first check that fails. Assumes nothing.
use Rattle.base.proofs.Chain.{chain}
use Rattle.rules.proofs.Answered.{answers}
use Rattle.check_sizes.proofs.Lengths.{length-as}
use Rattle.fit_scan.proofs.check_lengths.Goals as goal

pub returns-then-not-board_sides : goal.returns-then-not-board_sides
returns-then-not-board_sides c = search (chain, answers) depth 20 fits 5000

pub returns-then-not-has_length : goal.returns-then-not-has_length
returns-then-not-has_length c = search (chain, answers, length-as) depth 20 fits 5000

pub returns-then-not-has_length-2 : goal.returns-then-not-has_length-2
returns-then-not-has_length-2 c = search (chain, answers, length-as) depth 20 fits 5000

pub returns-then-not-whole_tiles : goal.returns-then-not-whole_tiles
returns-then-not-whole_tiles c = search (chain, answers, length-as) depth 20 fits 5000

pub returns : goal.returns
returns c = search (chain, answers, length-as) depth 20 fits 5000
