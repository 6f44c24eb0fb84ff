-- `score_mean::box_sum` meets its contract. The loop's invariant: the sum so far is that of the rows passed. Assumes nothing.
use mathlib.Core.Path.{◌≡◌}
use Rattle.base.specs.Tables.{fold}
use Rattle.rules.specs.Floats.{zero64}
use Rattle.rules.specs.Scores.{plus_term}
use Rattle.score_mean.specs.Box.{term_of, box_rows}
use Rattle.score_mean.proofs.box_sum.Given as goal

abbrev pub invariant-loop-i : goal.invariant-loop-i
invariant-loop-i g l = l.total ≡ fold (plus_term (term_of g.T.Term.of l.counts l.tiles)) zero64 (box_rows l.i l.cols l.r l.c)
