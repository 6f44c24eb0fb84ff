-- `score_regions::score_region` meets its contract: a sweep over the rows of the region. Assumes nothing.
use lib.Ieee.{nan}
use Rattle.base.proofs.Regions.{RowsDone}
use Rattle.score_regions.specs.Region.{score_step}
use Rattle.score_regions.proofs.score_region.Given as goal

abbrev pub invariant-loop-r : goal.invariant-loop-r
invariant-loop-r g l =
    RowsDone nan (score_step g.T.Term.of l.counts l.tiles l.cols) l.cols l.spans.rows.0 l.spans.rows.1 l.spans.cols.0 l.spans.cols.1 l.initial.scores l.scores l.r
