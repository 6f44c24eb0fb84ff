-- `places::in_range` meets its contract: the second comparison is asked only where the first holds.
-- Assumes nothing.
use mir.Facts.{to_z-of_z}
use Rattle.base.specs.Whole.{within_z}
use Rattle.places.proofs.in_range.Goals as goal

pub returns-then-least-z : goal.returns-then-least-z
unfolding within_z
returns-then-least-z c =
    let f = c.before.ranges in
    let t = rw (to_z-of_z f.least, to_z-of_z f.z) at c.if-least-z.true in
    rw (to_z-of_z f.z, to_z-of_z f.most, t)

pub returns-else-least-z : goal.returns-else-least-z
unfolding within_z
returns-else-least-z c =
    let f = c.before.ranges in
    let t = rw (to_z-of_z f.least, to_z-of_z f.z) at c.if-least-z.false in
    rw (to_z-of_z f.least, to_z-of_z f.z, t)
