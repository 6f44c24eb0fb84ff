-- `probability_normal::total` meets its contract. The loop's invariant: folding what is left from here gives the whole. Assumes nothing.
use mathlib.Core.Path.{◌≡◌}
use lib.ListN.{drop}
use Rattle.base.specs.Tables.{fold}
use Rattle.rules.specs.Probabilities.{plus_share, total_of}
use Rattle.probability_normal.proofs.total.Given as goal

abbrev pub invariant-loop-p : goal.invariant-loop-p
invariant-loop-p l = fold (plus_share l.most) l.sum (drop l.p-index l.ps) ≡ total_of l.most l.ps
