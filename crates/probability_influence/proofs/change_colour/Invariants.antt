-- `probability_influence::change_colour` meets its contract: a sweep over the rows of the region. Assumes nothing.
use lib.Ieee.{nan}
use Rattle.base.proofs.Regions.{RowsDone}
use Rattle.probability_influence.specs.Step.{region_in, block_of, colour_step}
use Rattle.probability_influence.proofs.change_colour.Given as goal

abbrev pub invariant-loop-r : goal.invariant-loop-r
invariant-loop-r g l =
    RowsDone nan (colour_step g.C.Change.cell (region_in l.spans.rows l.spans.cols) (block_of l.brows l.bcols l.block)) l.cols l.spans.rows.0 l.spans.rows.1 l.spans.cols.0 l.spans.cols.1 l.initial.plane l.plane l.r
