-- `scores::check_lay` meets its contract: sides, planes, place. Assumes nothing.
use Rattle.base.proofs.Chain.{chain}
use Rattle.rules.proofs.Answered.{answers, handed_to, passed, then-part}
use Rattle.scores.proofs.check_lay.Goals as goal

pub returns-then-not-board_sides : goal.returns-then-not-board_sides
returns-then-not-board_sides c = search (chain, answers) depth 20 fits 5000

pub returns-in_err-check_scores : goal.returns-in_err-check_scores
returns-in_err-check_scores c = handed_to c.from_residual.ensures (search (chain, answers, c.in_err-check_scores.was) depth 20 fits 5000)

pub returns : goal.returns
returns c = search (chain, then-part, passed _ _ c.check_scores.ensures c.in_ok-check_scores.was) depth 20 fits 5000
