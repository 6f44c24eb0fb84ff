-- `places::both_in_range` meets its contract: the second number is asked only where the first lies in the range.
-- Assumes nothing.
use mathlib.Core.Path.{sym, ◌∙◌}
use mir.Facts.{to_z-of_z}
use Rattle.base.proofs.Bools.{and-go, and-halt}
use Rattle.places.proofs.both_in_range.Goals as goal

pub returns-then-in_range : goal.returns-then-in_range
returns-then-in_range c =
    let f = c.before.before.before.ranges in
    and-go _ _
    (sym (rw (to_z-of_z f.least, to_z-of_z f.most, to_z-of_z f.x) at c.before.before.in_range.ensures) ∙ c.before.if-in_range.true)
    (rw (to_z-of_z f.least, to_z-of_z f.most, to_z-of_z f.y) at c.in_range-then-in_range.ensures)

pub returns-else-in_range : goal.returns-else-in_range
returns-else-in_range c =
    let f = c.before.before.ranges in
    and-halt _ _ (rw (to_z-of_z f.least, to_z-of_z f.most, to_z-of_z f.x) at c.before.in_range.ensures) c.if-in_range.false
