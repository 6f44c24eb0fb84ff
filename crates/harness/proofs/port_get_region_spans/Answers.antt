-- `harness::port_get_region_spans` meets its contract: the answer by its definition, passed on. Assumes nothing.
use Rattle.boundary_slots.proofs.Storing.{world_is, offset-is}
use Rattle.boundary.proofs.Back.{passed_on}
use Rattle.boundary.specs.Boundary.{told_left, spans_stored}
use mathlib.Core.Path.{◌∙◌, ap₂}
use Rattle.rules.specs.declared.World.{World}
use Rattle.rules.specs.declared.Offset.{Offset}
use Rattle.rules.specs.Places.{region_spans}
use Rattle.harness.proofs.port_get_region_spans.Goals as goal

pub returns : goal.returns
returns c =
    let a = c.args in
    passed_on (told_left spans_stored)
    (c.get_region_spans.ensures
    ∙ ap₂ (λ (w : World) (o : Offset). region_spans o w a.radius)
    (c.world_at.ensures ∙ world_is c.ranges.row c.ranges.col)
    (c.offset_at.ensures ∙ offset-is c.ranges.down c.ranges.across))
    c.spanned.ensures
