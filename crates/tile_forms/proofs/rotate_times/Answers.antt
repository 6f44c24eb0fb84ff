-- `tile_forms::rotate_times` meets its contract: one rotation after another. Assumes nothing.
use mathlib.Core.Path.{◌≡◌, ◌∙◌, ap}
use native.Mathlib.Omega.{arith}
use Rattle.rules.specs.Tiles.{rotated, turned}
use Rattle.tile_forms.proofs.rotate_times.Goals as goal

pub returns-in-0 : goal.returns-in-0
unfolding turned
returns-in-0 c = rw c.in-0.is

pub returns-in-1 : goal.returns-in-1
unfolding turned
returns-in-1 c = rw c.in-1.is c.rotate_90.ensures

pub returns-in-2 : goal.returns-in-2
unfolding turned
returns-in-2 c = rw c.in-2.is (c.rotate_90-in-2-2.ensures ∙ ap rotated c.rotate_90-in-2.ensures)

pub returns-in_default : goal.returns-in_default
unfolding turned
returns-in_default c =
    let three : c.args.n ≡ 3 = omega arith in
    rw three (c.rotate_90-in_default-3.ensures ∙ ap rotated (c.rotate_90-in_default-2.ensures ∙ ap rotated c.rotate_90-in_default.ensures))
