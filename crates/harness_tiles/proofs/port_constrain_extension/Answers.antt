-- `harness_tiles::port_constrain_extension` meets its contract: the answer by its definition, passed on. Assumes nothing.
use mathlib.Core.Path.{◌∙◌, ap, ap₂}
use Rattle.boundary_slots.proofs.Storing.{world_is, offset-is}
use Rattle.boundary.proofs.Back.{passed_on}
use Rattle.rules.specs.declared.World.{World}
use Rattle.rules.specs.declared.Offset.{Offset}
use Rattle.boundary.specs.Boundary.{told_left}
use Rattle.harness_tiles.specs.Lent.{extension_stored}
use Rattle.rules.specs.Places.{boxed_extension}
use Rattle.rules.specs.declared.BoundingBox.{BoundingBox}
use Rattle.boundary_slots.specs.Slots.{world, offset_by}
use Rattle.harness_tiles.proofs.Stored.{box-is}
use Rattle.harness_tiles.proofs.port_constrain_extension.Goals as goal

pub returns : goal.returns
returns c =
    let a = c.args in
    passed_on (told_left extension_stored)
    (c.constrain_extension-answer.ensures
    ∙ ap₂ (λ (w : World) (o : Offset). boxed_extension a.rows a.cols o w a.radius c.box_at-bounds.result)
    (c.world_at-place.ensures ∙ world_is c.ranges.row c.ranges.col)
    (c.offset_at-from.ensures ∙ offset-is c.ranges.down c.ranges.across)
    ∙ ap (λ (b : BoundingBox). boxed_extension a.rows a.cols (offset_by a.down a.across) (world a.row a.col) a.radius b)
    (c.box_at-bounds.ensures ∙ box-is c.ranges.minrow c.ranges.mincol c.ranges.maxrow c.ranges.maxcol))
    c.extension_given.ensures
