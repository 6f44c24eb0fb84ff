-- `harness_floats::port_lay_score` meets its contract: the answer by its definition, passed on. Assumes nothing.
use Rattle.boundary_slots.proofs.Storing.{world_is, offset-is}
use Rattle.boundary.proofs.Back.{numbered-at}
use mathlib.Core.Path.{◌∙◌}
use Rattle.rules.specs.declared.World.{World}
use Rattle.rules.specs.declared.Offset.{Offset}
use Rattle.rules.specs.Promises.{ScoresLay}
use Rattle.harness_floats.proofs.port_lay_score.Goals as goal

pub returns : goal.returns
returns c =
    let a = c.args in
    numbered-at (λ (w : World) (o : Offset). ScoresLay a.rows a.cols a.counts.now a.tiles w o a.scores.now)
    (c.world_at-place.ensures ∙ world_is c.ranges.row c.ranges.col)
    (c.offset_at-offset.ensures ∙ offset-is c.ranges.down c.ranges.across)
    c.written.ensures c.update_feasibility-answer.ensures
