-- `probability_normal::largest` meets its contract. The loop's invariant: folding what is left from here gives the whole. Assumes nothing.
use mathlib.Core.Path.{◌≡◌}
use lib.ListN.{drop}
use Rattle.base.specs.Tables.{fold}
use Rattle.rules.specs.Probabilities.{larger, largest_of}
use Rattle.probability_normal.proofs.largest.Given as goal

abbrev pub invariant-loop-p : goal.invariant-loop-p
invariant-loop-p l = fold larger l.most (drop l.p-index l.ps) ≡ largest_of l.ps
