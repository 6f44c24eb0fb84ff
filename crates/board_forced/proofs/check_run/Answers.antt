-- `board_forced::check_run` meets its contract: the budget, the board, the place, and at last the box. Assumes nothing.
use Rattle.base.proofs.Chain.{chain}
use Rattle.rules.proofs.Answered.{answers, handed_to, caught, passed}
use Rattle.board_forced.proofs.check_run.Goals as goal

pub returns-then-budget-gt-MAX_BUDGET : goal.returns-then-budget-gt-MAX_BUDGET
returns-then-budget-gt-MAX_BUDGET c = search (chain, answers) depth 20 fits 5000

pub returns-in_err-check_board : goal.returns-in_err-check_board
returns-in_err-check_board c =
    handed_to c.from_residual.ensures
    (search (chain, answers, caught _ _ (c.check_board.ensures c.args.offset) c.in_err-check_board.was) depth 20 fits 5000)

pub returns-in_err-check_place : goal.returns-in_err-check_place
returns-in_err-check_place c =
    handed_to c.from_residual-in_err-check_place.ensures
    (search (chain, answers, passed _ _ (c.check_board.ensures c.args.offset) c.in_ok-check_board.was, c.in_err-check_place.was) depth 20 fits 5000)

pub returns-then-not-bounds_fit : goal.returns-then-not-bounds_fit
returns-then-not-bounds_fit c =
    search (
      chain,
      answers,
      passed _ _ (c.check_board.ensures c.args.offset) c.in_ok-check_board.was,
      passed _ _ c.check_place.ensures c.in_ok-check_place.was,
    ) depth 20 fits 5000

pub returns : goal.returns
returns c =
    search (
      chain,
      answers,
      passed _ _ (c.check_board.ensures c.args.offset) c.in_ok-check_board.was,
      passed _ _ c.check_place.ensures c.in_ok-check_place.was,
    ) depth 20 fits 5000
