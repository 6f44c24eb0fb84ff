-- `queue_entries::take_next` meets its contract: the entry 0 is the first of those queued, and the entries from 1 on are the others.
-- Assumes nothing.
use native.Mathlib.Omega.{arith}
use Rattle.rules.specs.Forced.{no_position}
use Rattle.queue_entries.proofs.Entries.{out_none, out_first}
use Rattle.queue_entries.proofs.take_next.Goals as goal

pub returns-then-queue-eq0 : goal.returns-then-queue-eq0
returns-then-queue-eq0 c = out_none c.args.queue _ c.if-queue-eq0.true c.new.ensures

pub returns : goal.returns
returns c = out_first c.args.queue _ no_position (omega arith) (omega (arith, c.well_formed)) c.rest_from.ensures
