-- `desk::desk_widen` meets its contract: the answer by its definition, passed on. Assumes nothing.
use mathlib.Core.Path.{◌∙◌}
use Rattle.rules.specs.Promises.{board}
use Rattle.boundary_slots.specs.Slots.{pads_by}
use Rattle.boundary_slots.proofs.Storing.{offset-is}
use Rattle.desk.proofs.Told.{widen-told}
use Rattle.desk.proofs.desk_widen.Goals as goal

pub returns : goal.returns
returns c =
    let a = c.args in
    widen-told a.rows a.cols (pads_by a.left a.right a.top a.bottom) a.tiles.now a.count (board a.pieces.now a.weights.now a.counts.now)
    (board a.widepieces.now a.wideweights.now a.widecounts.now) a.offset.now
    (c.offset_at-from.ensures ∙ offset-is c.ranges.down c.ranges.across)
    c.widen.ensures c.widened.ensures
