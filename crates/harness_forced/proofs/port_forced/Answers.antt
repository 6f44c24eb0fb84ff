-- `harness_forced::port_forced` meets its contract: the answer by its definition, passed on. Assumes nothing.
use mathlib.Core.Path.{◌∙◌, ap₂}
use Rattle.std.specs.Prelude.{Option}
use Rattle.rules.specs.Grid.{flat}
use Rattle.rules.specs.Forced.{forced_neighbours}
use Rattle.rules.specs.declared.World.{World}
use Rattle.rules.specs.declared.Offset.{Offset}
use Rattle.rules.specs.declared.BoundingBox.{BoundingBox}
use Rattle.boundary_slots.specs.Slots.{bounds_from}
use Rattle.boundary_slots.proofs.Storing.{world_is, offset-is}
use Rattle.boundary.proofs.Back.{passed_on}
use Rattle.boundary.specs.Boundary.{told_left}
use Rattle.harness_forced.specs.Slices.{positions_stored}
use Rattle.harness_forced.proofs.Crossing.{alike}
use Rattle.harness_forced.proofs.port_forced.Goals as goal

pub returns : goal.returns
returns c =
    let a = c.args in
    let f = c.ranges in
    passed_on (told_left positions_stored)
    (c.detect_forced_positions-answer.ensures
    ∙ alike (λ (w : World) (o : Offset) (b : Option BoundingBox). forced_neighbours flat a.pieces.now a.rows a.cols a.tiles.now a.count w o b)
    (c.world_at.ensures ∙ world_is f.row f.col)
    (c.offset_at.ensures ∙ offset-is f.down f.across)
    (c.bounds_from.ensures
    ∙ ap₂ (bounds_from a.within) (c.world_at-2.ensures ∙ world_is f.minrow f.mincol) (c.world_at-3.ensures ∙ world_is f.maxrow f.maxcol)))
    c.forced_given.ensures
