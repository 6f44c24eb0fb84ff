-- `desk::desk_lay` meets its contract: the answer by its definition, passed on. Assumes nothing.
use Rattle.boundary_slots.proofs.Storing.{world_is, offset-is}
use Rattle.boundary.proofs.Back.{numbered-at}
use mathlib.Core.Path.{◌∙◌}
use Rattle.rules.specs.declared.World.{World}
use Rattle.rules.specs.declared.Offset.{Offset}
use Rattle.rules.specs.Promises.{board, panel, Lays}
use Rattle.desk.proofs.desk_lay.Goals as goal

pub returns : goal.returns
returns c =
    let a = c.args in
    numbered-at
    (λ (w : World) (o : Offset). Lays (panel a.rows a.cols a.tiles.now o) a.count w a.colour (board a.pieces.now a.weights.now a.counts.now))
    (c.world_at-laid_at.ensures ∙ world_is c.ranges.row c.ranges.col)
    (c.offset_at-offset.ensures ∙ offset-is c.ranges.down c.ranges.across)
    c.written.ensures c.lay.ensures
