-- `fit::check_pieces` meets its contract: three checks, then those of the colours. Assumes nothing.
use Rattle.base.proofs.Chain.{chain}
use Rattle.rules.proofs.Answered.{answers, then-part}
use Rattle.check_sizes.proofs.Lengths.{length-as}
use Rattle.fit.proofs.check_pieces.Goals as goal

pub returns-then-not-board_sides : goal.returns-then-not-board_sides
returns-then-not-board_sides c = search (chain, answers) depth 20 fits 5000

pub returns-then-not-has_length : goal.returns-then-not-has_length
returns-then-not-has_length c = search (chain, answers, length-as) depth 20 fits 5000

pub returns-then-not-whole_tiles : goal.returns-then-not-whole_tiles
returns-then-not-whole_tiles c = search (chain, answers, length-as) depth 20 fits 5000

pub returns : goal.returns
returns c = search (chain, answers, length-as, then-part) depth 20 fits 5000
