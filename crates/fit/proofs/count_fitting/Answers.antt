-- `fit::count_fitting` meets its contract: the checks of pieces and tiles, then of the cell, then the count. Assumes nothing.
use mathlib.Core.Path.{sym}
use Rattle.base.proofs.Chain.{chain}
use Rattle.rules.specs.Fit.{region_count}
use Rattle.rules.proofs.Answered.{answers, handed_to, passed}
use Rattle.fit_windows.proofs.Accepted.{accepted-ready}
use Rattle.fit.proofs.count_fitting.Goals as goal

pub returns-in_err-check_pieces : goal.returns-in_err-check_pieces
unfolding region_count
returns-in_err-check_pieces c = handed_to c.from_residual.ensures (search (chain, answers, c.in_err-check_pieces.was) depth 20 fits 5000)

pub returns-then-not-on_grid : goal.returns-then-not-on_grid
unfolding region_count
returns-then-not-on_grid c = search (chain, answers, passed _ _ c.check_pieces.ensures c.in_ok-check_pieces.was) depth 20 fits 5000

pub fit_count_at-requires-clause-countable : goal.fit_count_at-requires-clause-countable
fit_count_at-requires-clause-countable c = (accepted-ready _ _ _ _ _ (sym (passed _ _ c.check_pieces.ensures c.in_ok-check_pieces.was))).tried

pub returns : goal.returns
unfolding region_count
returns c = search (chain, answers, passed _ _ c.check_pieces.ensures c.in_ok-check_pieces.was) depth 20 fits 5000
