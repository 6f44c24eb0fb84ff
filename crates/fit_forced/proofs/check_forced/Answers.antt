-- `fit_forced::check_forced` meets its contract: the checks of the pieces and tiles, then of the place, then of the box. Assumes nothing.
use Rattle.base.proofs.Chain.{chain}
use Rattle.rules.proofs.Answered.{answers, handed_to, passed}
use Rattle.fit_forced.proofs.check_forced.Goals as goal

pub returns-in_err-check_pieces : goal.returns-in_err-check_pieces
returns-in_err-check_pieces c = handed_to c.from_residual.ensures (search (chain, answers, c.in_err-check_pieces.was) depth 20 fits 5000)

pub returns-in_err-check_place : goal.returns-in_err-check_place
returns-in_err-check_place c =
    handed_to c.from_residual-in_err-check_place.ensures
    (search (chain, answers, passed _ _ c.check_pieces.ensures c.in_ok-check_pieces.was, c.in_err-check_place.was) depth 20 fits 5000)

pub returns-then-not-bounds_fit : goal.returns-then-not-bounds_fit
returns-then-not-bounds_fit c =
    search (chain, answers, passed _ _ c.check_pieces.ensures c.in_ok-check_pieces.was, passed _ _ c.check_place.ensures c.in_ok-check_place.was) depth 20 fits 5000

pub returns : goal.returns
returns c =
    search (chain, answers, passed _ _ c.check_pieces.ensures c.in_ok-check_pieces.was, passed _ _ c.check_place.ensures c.in_ok-check_place.was) depth 20 fits 5000
