-- `board_fresh::fresh` meets its contract: refused by its lengths, by the number of tiles, or three planes filled. Assumes nothing.
use mathlib.Core.Path.{◌≡◌, refl, sym, ◌∙◌}
use native.Mathlib.Omega.{arith}
use Rattle.base.specs.Refusal.{refusal}
use Rattle.base.proofs.Chain.{chain}
use Rattle.rules.specs.Board.{fresh_checks}
use Rattle.rules.specs.Promises.{board}
use Rattle.rules.proofs.Answered.{answers, handed_to, caught, stopped, passed, refused, done}
use Rattle.check_sizes.proofs.Sides.{tiles-most}
use Rattle.board_fresh.proofs.Filled.{filled}
use Rattle.board_fresh.proofs.fresh.Goals.{Else-not-tile_number_fits}
use Rattle.board_fresh.proofs.fresh.Goals as goal

pub returns-in_err-check_lengths : goal.returns-in_err-check_lengths
returns-in_err-check_lengths c =
    rw (handed_to c.from_residual.ensures refl)
    (refused _ _ _ _ (stopped _ _ (caught _ _ c.check_lengths.ensures c.in_err-check_lengths.was)))

pub returns-then-not-tile_number_fits : goal.returns-then-not-tile_number_fits
returns-then-not-tile_number_fits c =
    search (chain, answers, passed _ _ c.check_lengths.ensures c.in_ok-check_lengths.was) depth 20 fits 5000

-- all checks have passed
made : (c : Else-not-tile_number_fits)
    → 0 ≡ refusal (fresh_checks c.args.rows c.args.cols c.args.tiles (board c.args.pieces.now c.args.weights.now c.args.counts.now))
made c = search (chain, answers, passed _ _ c.check_lengths.ensures c.in_ok-check_lengths.was) depth 20 fits 5000

pub overflow_cast-tiles : goal.overflow_cast-tiles
overflow_cast-tiles c = omega (arith, tiles-most _ (sym c.tile_number_fits.ensures ∙ c.if-not-tile_number_fits.false))

pub returns : goal.returns
returns c =
    let m = made (goal.at.returns c).Else-not-tile_number_fits in
    done _ _ _ _ m refl (filled _ _ _ _ _ _ m _ _ _ c.fill.ensures c.fill-2.ensures c.fill-3.ensures)
