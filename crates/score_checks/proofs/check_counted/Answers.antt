-- `score_checks::check_counted` meets its contract: each exit answers the first check that fails. Assumes nothing.
use native.Mathlib.Omega.{arith}
use mathlib.Core.Path.{sym, ◌∙◌}
use Rattle.base.proofs.Chain.{chain}
use Rattle.rules.proofs.Answered.{answers}
use Rattle.check_sizes.proofs.Sides.{few-cells, tiles-most}
use Rattle.score_checks.proofs.check_counted.Goals as goal

pub overflow_mul-rows : goal.overflow_mul-rows
overflow_mul-rows c = record { fits = omega (arith, few-cells _ _ c.requires) }

pub returns-then-not-has_length : goal.returns-then-not-has_length
returns-then-not-has_length c = search (chain, answers) depth 20 fits 5000

pub overflow_mul-rows-2 : goal.overflow_mul-rows-2
overflow_mul-rows-2 c = record { fits = omega (arith, few-cells _ _ c.requires) }

pub returns-then-not-has_length-2 : goal.returns-then-not-has_length-2
returns-then-not-has_length-2 c = search (chain, answers) depth 20 fits 5000

pub returns-then-not-tile_number_fits : goal.returns-then-not-tile_number_fits
returns-then-not-tile_number_fits c = search (chain, answers) depth 20 fits 5000

pub overflow_cast-tiles : goal.overflow_cast-tiles
overflow_cast-tiles c = record { fits = omega (arith, tiles-most _ (sym c.tile_number_fits.ensures ∙ c.if-not-tile_number_fits.false)) }

pub returns-then-not-no_word_above : goal.returns-then-not-no_word_above
returns-then-not-no_word_above c = search (chain, answers) depth 20 fits 5000

pub returns : goal.returns
returns c = search (chain, answers) depth 20 fits 5000
