-- `board_planes::check_lifting` meets its contract, by its two ways out. Assumes nothing.
use Rattle.base.proofs.Chain.{chain}
use Rattle.rules.proofs.Answered.{answers}
use Rattle.board_planes.proofs.check_lifting.Goals as goal

pub returns-then-pieces-k-le-BARE_PIECE : goal.returns-then-pieces-k-le-BARE_PIECE
returns-then-pieces-k-le-BARE_PIECE c = search (chain, answers) depth 20 fits 5000

pub returns : goal.returns
returns c = search (chain, answers) depth 20 fits 5000
