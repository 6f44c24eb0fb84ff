-- `score_regions::score_row` meets its contract: a sweep along the row. Assumes nothing.
use lib.Ieee.{nan}
use Rattle.base.proofs.Sweep.{Sweep}
use Rattle.base.proofs.Regions.{entry_then}
use Rattle.score_regions.specs.Region.{score_step}
use Rattle.score_regions.proofs.score_row.Given as goal

abbrev pub invariant-loop-j : goal.invariant-loop-j
invariant-loop-j g l = Sweep nan (entry_then nan (score_step g.T.Term.of l.counts l.tiles l.cols) l.r l.left l.initial.row) l.initial.row l.row l.j
