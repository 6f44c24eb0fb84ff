-- `fit::compute_viable_tiles_at_position` meets its contract: the checks of pieces and tiles, then of the place, then the list.
-- Assumes nothing.
use mathlib.Core.Path.{refl, sym}
use Rattle.base.proofs.Chain.{chain}
use Rattle.rules.specs.Fit.{listing}
use Rattle.rules.proofs.Answered.{answers, handed_to, passed, tells}
use Rattle.fit_windows.proofs.Accepted.{accepted-ready}
use Rattle.fit.proofs.Accepted.{place-on}
use Rattle.fit.proofs.compute_viable_tiles_at_position.Goals as goal

pub returns-in_err-check_pieces : goal.returns-in_err-check_pieces
unfolding listing
returns-in_err-check_pieces c = handed_to c.from_residual.ensures (search (chain, answers, c.in_err-check_pieces.was) depth 20 fits 5000)

pub returns-in_err-check_place : goal.returns-in_err-check_place
unfolding listing
returns-in_err-check_place c = handed_to c.from_residual-in_err-check_place.ensures (search (chain, answers, passed _ _ c.check_pieces.ensures c.in_ok-check_pieces.was, c.in_err-check_place.was) depth 20 fits 5000)

pub viable_tiles_at-requires : goal.viable_tiles_at-requires
viable_tiles_at-requires c =
    let on = place-on _ _ _ _ (sym (passed _ _ c.check_place.ensures c.in_ok-check_place.was)) in
    record {
      ready = accepted-ready _ _ _ _ _ (sym (passed _ _ c.check_pieces.ensures c.in_ok-check_pieces.was));
      cell_on = rw c.cell_of.ensures on;
    }

pub returns : goal.returns
unfolding listing
returns c = rw (c.viable_tiles_at.ensures, c.cell_of.ensures) (tells _ (search (chain, answers, passed _ _ c.check_pieces.ensures c.in_ok-check_pieces.was, passed _ _ c.check_place.ensures c.in_ok-check_place.was) depth 20 fits 5000) refl)
