-- `queue::take_next` meets its contract: refused on entry, or what taking gives beneath the checks.
-- Assumes nothing.
use mathlib.Core.Path.{◌∙◌}
use Rattle.rules.proofs.Answered.{passed}
use Rattle.queue.proofs.Calls.{in-room-of, taken_refused, taken}
use Rattle.queue.proofs.take_next.Goals as goal

pub returns-in-Err : goal.returns-in-Err
returns-in-Err c = taken_refused _ c.in-Err.ensures

pub take_next-requires : goal.take_next-requires
take_next-requires c = in-room-of _ (passed _ _ c.check_queue.ensures c.in_default.is)

pub returns : goal.returns
returns c = c.take_next.ensures ∙ taken _ (passed _ _ c.check_queue.ensures c.in_default.is)
