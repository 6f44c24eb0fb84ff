-- `board_recount::check_counted` meets its contract: the checks of the colours, then that of the counts. Assumes nothing.
use Rattle.base.proofs.Chain.{chain}
use Rattle.rules.proofs.Answered.{answers, handed_to, passed}
use Rattle.board_recount.proofs.check_counted.Goals as goal

pub returns-in_err-check_colours : goal.returns-in_err-check_colours
returns-in_err-check_colours c = handed_to c.from_residual.ensures (search (chain, answers, c.in_err-check_colours.was) depth 20 fits 5000)

pub returns-then-not-no_word_above : goal.returns-then-not-no_word_above
returns-then-not-no_word_above c = search (chain, answers, passed _ _ c.check_colours.ensures c.in_ok-check_colours.was) depth 20 fits 5000

pub returns : goal.returns
returns c = search (chain, answers, passed _ _ c.check_colours.ensures c.in_ok-check_colours.was) depth 20 fits 5000
