-- `harness_forced::slices::fill` meets its contract. The loop's invariant: below i the entries are those of the slices, from i on as they were.
-- Assumes nothing.
use mathlib.Core.Path.{◌≡◌}
use Rattle.base.proofs.Swept.{swept}
use Rattle.rules.specs.Forced.{no_position}
use Rattle.harness_forced.specs.Slices.{entry_at}
use Rattle.harness_forced.proofs.slices.fill.Given as goal

abbrev pub invariant-loop-i : goal.invariant-loop-i
invariant-loop-i l = l.entries ≡ swept no_position l.i (entry_at l.coordinates l.colours) l.initial.entries
