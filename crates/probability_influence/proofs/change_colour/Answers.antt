-- `probability_influence::change_colour` meets its contract: a sweep over the rows of the region. Assumes nothing.
use Prim.Native.Nat.{◌+◌, ◌*◌}
use mathlib.Core.Path.{refl}
use Rattle.base.proofs.Regions.{region-start, region-turn, region-done}
use Rattle.probability_influence.specs.Step.{colour_changed}
use Rattle.probability_influence.proofs.Step.{cell-change}
use Rattle.probability_influence.proofs.change_colour.Goals as goal

pub loop-r-init : goal.loop-r-init
loop-r-init g c = region-start _ _ _ _ _ _ _ _ c.requires.region

pub loop-r-preserved : goal.loop-r-preserved
loop-r-preserved g c =
    let a = c.args in
    let r = c.loop-r.r in
    let d = c.loop-r.invariant in
    let r< = c.loop-r-test.true in
    region-turn _ _ _ _ _ _ _ _ c.requires.region d (r * a.cols + a.spans.cols.0) (r * a.cols + a.spans.cols.1) refl refl r< c.change_row.ensures
    (λ j h.
    cell-change a.brows a.bcols a.block.now c.requires.block-long a.spans.rows a.spans.cols r j d.low r< h g.met.C.Change.laws _ c.block_row-factors.ensures)

pub returns : goal.returns
unfolding colour_changed
returns g c = region-done _ _ _ _ _ _ _ _ c.requires.region c.loop-r.invariant c.loop-r-test.false
