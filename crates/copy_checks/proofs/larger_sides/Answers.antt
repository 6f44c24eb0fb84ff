-- `copy_checks::larger_sides` meets its contract: the columns are asked only where the rows fit.
-- Assumes nothing.
use mathlib.Core.Path.{sym, ◌∙◌}
use Rattle.base.proofs.Bools.{and-go, and-halt}
use Rattle.rules.specs.Tests.{board_sides}
use Rattle.copy_checks.proofs.larger_sides.Goals as goal

pub returns-then-side_fits : goal.returns-then-side_fits
unfolding board_sides
returns-then-side_fits c = and-go _ _ (sym c.before.before.side_fits.ensures ∙ c.before.if-side_fits.true) c.side_fits-then-side_fits.ensures

pub returns-else-side_fits : goal.returns-else-side_fits
unfolding board_sides
returns-else-side_fits c = and-halt _ _ c.before.side_fits.ensures c.if-side_fits.false
