-- `score_mean::add_row` meets its contract. The loop's invariant: the sum so far is that of the row's cells passed. Assumes nothing.
use mathlib.Core.Path.{◌≡◌}
use Prim.Native.Nat.{◌-◌}
use lib.Dec.{leb}
use Rattle.base.specs.Tables.{those, fold}
use Rattle.rules.specs.Scores.{plus_term}
use Rattle.score_mean.specs.Box.{term_of, place_in}
use Rattle.score_mean.proofs.add_row.Given as goal

abbrev pub invariant-loop-j : goal.invariant-loop-j
invariant-loop-j g l = l.total ≡ fold (plus_term (term_of g.T.Term.of l.counts l.tiles)) l.sum (those l.j (leb (2 - l.c)) (place_in l.cols l.r l.c l.i))
