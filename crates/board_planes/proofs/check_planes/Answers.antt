-- `board_planes::check_planes` meets its contract: a chain of three checks. Assumes nothing.
use Rattle.base.proofs.Chain.{chain}
use Rattle.rules.proofs.Answered.{answers}
use Rattle.board_planes.proofs.check_planes.Goals as goal

pub returns-then-not-has_length : goal.returns-then-not-has_length
returns-then-not-has_length c = search (chain, answers) depth 20 fits 5000

pub returns-then-not-has_length-2 : goal.returns-then-not-has_length-2
returns-then-not-has_length-2 c = search (chain, answers) depth 20 fits 5000

pub returns-then-not-has_length-3 : goal.returns-then-not-has_length-3
returns-then-not-has_length-3 c = search (chain, answers) depth 20 fits 5000

pub returns : goal.returns
returns c = search (chain, answers) depth 20 fits 5000
