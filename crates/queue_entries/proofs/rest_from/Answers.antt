-- `queue_entries::rest_from` meets its contract: what was copied is the part of the entries, and behind it stand the zeros of a new queue.
-- Assumes nothing.
use mathlib.Core.Path.{ap}
use native.Mathlib.Omega.{arith}
use Rattle.rules.specs.Forced.{queued, queue_of}
use Rattle.rules.specs.declared.ForcedPipeline.{ForcedPipeline}
use Rattle.queue_entries.proofs.Entries.{left-is}
use Rattle.queue_entries.proofs.rest_from.Goals as goal

pub returns : goal.returns
unfolding queued queue_of
returns c =
    left-is c.args.queue.entries _ _ c.args.start c.args.queue.len (omega (arith, c.well_formed))
    (ap (λ (q : ForcedPipeline). q.entries) c.new.ensures) c.copy_from_slice.ensures.after
