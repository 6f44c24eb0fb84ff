-- `score_plain::check_whole` meets its contract: sides, then planes and number. Assumes nothing.
use Rattle.base.proofs.Chain.{chain}
use Rattle.rules.proofs.Answered.{answers, then-part}
use Rattle.score_plain.proofs.check_whole.Goals as goal

pub returns-then-not-board_sides : goal.returns-then-not-board_sides
returns-then-not-board_sides c = search (chain, answers) depth 20 fits 5000

pub returns : goal.returns
returns c = search (chain, then-part) depth 20 fits 5000
