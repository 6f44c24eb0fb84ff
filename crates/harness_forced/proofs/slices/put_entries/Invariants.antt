-- `harness_forced::slices::put_entries` meets its contract. The loop's invariant: the first i entries are stored. Assumes nothing.
use Rattle.harness_forced.proofs.Crossing.{Storing}
use Rattle.harness_forced.proofs.slices.put_entries.Given as goal

abbrev pub invariant-loop-i : goal.invariant-loop-i
invariant-loop-i l = Storing l.entries l.i l.initial.coordinates l.initial.colours l.coordinates l.colours
