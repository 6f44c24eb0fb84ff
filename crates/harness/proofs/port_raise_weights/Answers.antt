-- `harness::port_raise_weights` meets its contract: the answer by its definition, passed on. Assumes nothing.
use Rattle.boundary_slots.proofs.Storing.{world_is, offset-is}
use Rattle.boundary.proofs.Back.{numbered-at}
use mathlib.Core.Path.{◌∙◌}
use Rattle.rules.specs.declared.World.{World}
use Rattle.rules.specs.declared.Offset.{Offset}
use Rattle.rules.specs.Grid.{flat}
use Rattle.rules.specs.Promises.{Raises}
use Rattle.harness.proofs.port_raise_weights.Goals as goal

pub returns : goal.returns
returns c =
    let a = c.args in
    numbered-at (λ (w : World) (o : Offset). Raises flat a.rows a.cols w o a.weights.now)
    (c.world_at.ensures ∙ world_is c.ranges.row c.ranges.col)
    (c.offset_at.ensures ∙ offset-is c.ranges.down c.ranges.across)
    c.written.ensures c.raise_adjacency_weights.ensures
