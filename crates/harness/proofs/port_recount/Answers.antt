-- `harness::port_recount` meets its contract: the answer by its definition, passed on. Assumes nothing.
use Rattle.boundary_slots.proofs.Storing.{world_is, offset-is}
use Rattle.boundary.proofs.Back.{numbered-at}
use mathlib.Core.Path.{◌∙◌}
use Rattle.rules.specs.declared.World.{World}
use Rattle.rules.specs.declared.Offset.{Offset}
use Rattle.rules.specs.Promises.{panel, Recounts}
use Rattle.harness.proofs.port_recount.Goals as goal

pub returns : goal.returns
returns c =
    let a = c.args in
    numbered-at (λ (w : World) (o : Offset). Recounts (panel a.rows a.cols a.tiles.now o) a.count w a.pieces.now a.counts.now)
    (c.world_at.ensures ∙ world_is c.ranges.row c.ranges.col)
    (c.offset_at.ensures ∙ offset-is c.ranges.down c.ranges.across)
    c.written.ensures c.recount_feasibility.ensures
