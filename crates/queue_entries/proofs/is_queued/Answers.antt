-- `queue_entries::is_queued` meets its contract. The loop's invariant: whether the place is among the entries from the loop's index on
-- decides whether it is queued.
-- Assumes nothing.
use Rattle.rules.specs.Forced.{queued, no_position}
use Rattle.queue_entries.proofs.Places.{search-found, search-on, search-end}
use Rattle.queue_entries.proofs.is_queued.Goals as goal

pub returns-then-same_place : goal.returns-then-same_place
unfolding queued
returns-then-same_place c =
    search-found c.args.place _ _ c.loop-entry.invariant no_position c.loop-entry-test.true c.same_place.ensures c.if-same_place.true

pub loop-entry-preserved : goal.loop-entry-preserved
loop-entry-preserved c =
    search-on c.args.place _ _ c.loop-entry.invariant no_position c.loop-entry-test.true c.same_place.ensures c.if-same_place.false

pub returns : goal.returns
unfolding queued
returns c = search-end c.args.place _ _ c.loop-entry.invariant c.loop-entry-test.false
