-- `fit::check_fraction` meets its contract: a chain of five checks. Assumes nothing.
use mathlib.Core.Path.{sym, ◌∙◌}
use native.Mathlib.Omega.{arith}
use Rattle.base.proofs.Chain.{chain}
use Rattle.rules.proofs.Answered.{answers}
use Rattle.check_sizes.proofs.Sides.{tiles-most}
use Rattle.check_sizes.proofs.Lengths.{length-as}
use Rattle.fit.proofs.check_fraction.Goals as goal

pub returns-then-not-board_sides : goal.returns-then-not-board_sides
returns-then-not-board_sides c = search (chain, answers) depth 20 fits 5000

pub returns-then-not-has_length : goal.returns-then-not-has_length
returns-then-not-has_length c = search (chain, answers, length-as) depth 20 fits 5000

pub returns-then-not-tile_number_fits : goal.returns-then-not-tile_number_fits
returns-then-not-tile_number_fits c = search (chain, answers, length-as) depth 20 fits 5000

pub overflow_cast-tiles : goal.overflow_cast-tiles
overflow_cast-tiles c = record { fits = omega (arith, tiles-most _ (sym c.tile_number_fits.ensures ∙ c.if-not-tile_number_fits.false)) }

pub returns-then-not-no_word_above : goal.returns-then-not-no_word_above
returns-then-not-no_word_above c = search (chain, answers, length-as) depth 20 fits 5000

pub returns-then-not-on_grid : goal.returns-then-not-on_grid
returns-then-not-on_grid c = search (chain, answers, length-as) depth 20 fits 5000

pub returns : goal.returns
returns c = search (chain, answers, length-as) depth 20 fits 5000
