-- `desk::desk_forced_run` meets its contract: the answer by its definition, passed on. Assumes nothing.
use mathlib.Core.Path.{◌∙◌, ap₂}
use Rattle.rules.specs.Promises.{board}
use Rattle.boundary_slots.specs.Slots.{bounds_from}
use Rattle.boundary_slots.proofs.Storing.{world_is, offset-is}
use Rattle.desk.proofs.Told.{run-told}
use Rattle.desk.proofs.desk_forced_run.Goals as goal

pub returns : goal.returns
returns c =
    let a = c.args in
    let f = c.ranges in
    let least = c.world_at-least.ensures ∙ world_is f.minrow f.mincol in
    let most = c.world_at-most.ensures ∙ world_is f.maxrow f.maxcol in
    run-told a.rows a.cols a.tiles.now a.count a.budget (board a.pieces.now a.weights.now a.counts.now) a.ran.now
    (c.world_at-place.ensures ∙ world_is f.row f.col)
    (c.offset_at-offset.ensures ∙ offset-is f.down f.across)
    (c.bounds_from-bounds.ensures ∙ ap₂ (bounds_from a.within) least most)
    c.forced_run.ensures
    c.ran.ensures
