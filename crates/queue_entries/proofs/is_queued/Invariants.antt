-- `queue_entries::is_queued` meets its contract. The loop's invariant: whether the place is among the entries from the loop's index on
-- decides whether it is queued.
-- Assumes nothing.
use mathlib.Core.Path.{◌≡◌}
use lib.ListN.{drop}
use Rattle.rules.specs.Forced.{is_queued}
use Rattle.queue_entries.proofs.is_queued.Given as goal

abbrev pub invariant-loop-entry : goal.invariant-loop-entry
invariant-loop-entry l = is_queued l.place (drop l.entry-index l.entry-items) ≡ is_queued l.place l.entry-items
