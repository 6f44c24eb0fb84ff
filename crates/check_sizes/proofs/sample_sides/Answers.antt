-- `check_sizes::sample_sides` meets its contract, by its two ways out. Assumes nothing.
use mathlib.Core.Path.{sym, ◌∙◌}
use Rattle.base.proofs.Bools.{and-go, and-halt}
use Rattle.rules.specs.Tests.{sample_sides}
use Rattle.check_sizes.proofs.sample_sides.Goals as goal

pub returns-then-within_bounds : goal.returns-then-within_bounds
unfolding sample_sides
returns-then-within_bounds c = and-go _ _ (sym c.before.before.within_bounds.ensures ∙ c.before.if-within_bounds.true) c.within_bounds-then-within_bounds.ensures

pub returns-else-within_bounds : goal.returns-else-within_bounds
unfolding sample_sides
returns-else-within_bounds c = and-halt _ _ c.before.within_bounds.ensures c.if-within_bounds.false
