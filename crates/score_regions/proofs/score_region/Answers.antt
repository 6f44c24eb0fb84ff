-- `score_regions::score_region` meets its contract: a sweep over the rows of the region. Assumes nothing.
use mathlib.Core.Path.{refl}
use Prim.Native.Nat.{◌+◌, ◌*◌}
use Rattle.base.specs.Regions.{over_row}
use Rattle.base.proofs.Regions.{region-start, region-turn, region-done}
use Rattle.score_regions.specs.Region.{region_scored}
use Rattle.score_regions.proofs.score_region.Goals as goal

pub loop-r-init : goal.loop-r-init
loop-r-init g c = region-start _ _ _ _ _ _ _ _ c.requires.region

pub loop-r-preserved : goal.loop-r-preserved
unfolding over_row
loop-r-preserved g c =
    let a = c.args in
    let r = c.loop-r.r in
    region-turn _ _ _ _ _ _ _ _ c.requires.region c.loop-r.invariant (r * a.cols + a.spans.cols.0) (r * a.cols + a.spans.cols.1) refl refl
    c.loop-r-test.true c.score_row.ensures (λ j h. refl)

pub returns : goal.returns
unfolding region_scored
returns g c = region-done _ _ _ _ _ _ _ _ c.requires.region c.loop-r.invariant c.loop-r-test.false
