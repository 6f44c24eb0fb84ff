-- `harness::port_listing` meets its contract: the answer by its definition, passed on. Assumes nothing.
use Rattle.boundary_slots.proofs.Storing.{world_is, offset-is}
use Rattle.boundary.proofs.Back.{passed_on}
use Rattle.boundary.specs.Boundary.{told_left, set_stored}
use mathlib.Core.Path.{◌∙◌, ap₂}
use Rattle.rules.specs.declared.World.{World}
use Rattle.rules.specs.declared.Offset.{Offset}
use Rattle.rules.specs.Grid.{flat}
use Rattle.rules.specs.Fit.{listing}
use Rattle.harness.proofs.port_listing.Goals as goal

pub returns : goal.returns
returns c =
    let a = c.args in
    passed_on (told_left set_stored)
    (c.compute_viable_tiles_at_position.ensures
    ∙ ap₂ (λ (w : World) (o : Offset). listing flat a.pieces.now a.rows a.cols a.tiles.now a.count w o)
    (c.world_at.ensures ∙ world_is c.ranges.row c.ranges.col)
    (c.offset_at.ensures ∙ offset-is c.ranges.down c.ranges.across))
    c.set_given.ensures
