-- `score_regions::score_row` meets its contract: a sweep along the row. Assumes nothing.
use Rattle.base.specs.Regions.{over_row}
use Rattle.base.proofs.Sweep.{sweep-none, sweep-turn, sweep-all}
use borrow.Author.Rules.{rules}
use Rattle.score_regions.proofs.score_row.Goals as goal

pub loop-j-init : goal.loop-j-init
loop-j-init g c = sweep-none

pub loop-j-preserved : goal.loop-j-preserved
loop-j-preserved g c = sweep-turn c.loop-j.invariant (search rules) c.box_mean.ensures

pub returns : goal.returns
unfolding over_row
returns g c = sweep-all c.loop-j.invariant (search rules)
