-- `probabilities::get_tile_probabilities_at_position` meets its contract: refused, or taken from the plane and normalised. Assumes nothing.
use mathlib.Core.Path.{sym, ◌∙◌}
use Rattle.rules.proofs.Answered.{passed}
use Rattle.probabilities.proofs.Accept.{normal-passes}
use Rattle.probabilities.proofs.get_tile_probabilities_at_position.Goals as goal

pub take_place-requires : goal.take_place-requires
take_place-requires c =
    let a = c.args in
    (normal-passes _ _ _ _ _ a.place a.offset (sym (passed _ _ c.check_normalise.ensures c.in_ok-check_normalise.was))).fits

pub normalise-requires : goal.normalise-requires
normalise-requires c =
    let a = c.args in
    let p = normal-passes _ _ _ _ _ a.place a.offset (sym (passed _ _ c.check_normalise.ensures c.in_ok-check_normalise.was)) in
    sym (c.take_place.auto.out ∙ p.fits.out-long)
