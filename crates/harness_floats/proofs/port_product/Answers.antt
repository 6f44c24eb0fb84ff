-- `harness_floats::port_product` meets its contract: the answer by its definition, passed on. Assumes nothing.
use Rattle.boundary_slots.proofs.Storing.{world_is, offset-is}
use Rattle.boundary.proofs.Back.{numbered-at}
use mathlib.Core.Path.{◌∙◌}
use Rattle.rules.specs.declared.World.{World}
use Rattle.rules.specs.declared.Offset.{Offset}
use Rattle.rules.specs.Promises.{Multiplies}
use Rattle.probability_influence.specs.Step.{block_of}
use Rattle.harness_floats.proofs.port_product.Goals as goal

pub returns : goal.returns
returns c =
    let a = c.args in
    numbered-at
    (λ (w : World) (o : Offset). Multiplies a.rows a.cols a.count (block_of a.blockrows a.blockcols a.block.now) w o a.radius a.probabilities.now)
    (c.world_at-place.ensures ∙ world_is c.ranges.row c.ranges.col)
    (c.offset_at-offset.ensures ∙ offset-is c.ranges.down c.ranges.across)
    c.written.ensures c.update_probabilities-answer.ensures
