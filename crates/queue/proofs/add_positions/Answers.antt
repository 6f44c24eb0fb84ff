-- `queue::add_positions` meets its contract: refused on entry, or what adding gives beneath those checks, ROOM included.
-- Assumes nothing.
use mathlib.Core.Path.{◌∙◌}
use Rattle.rules.proofs.Answered.{passed}
use Rattle.queue.proofs.Calls.{adding-of, grown-refused, grown}
use Rattle.queue.proofs.add_positions.Goals as goal

pub returns-in-Err : goal.returns-in-Err
returns-in-Err c = grown-refused _ _ c.in-Err.ensures

pub add_positions-requires : goal.add_positions-requires
add_positions-requires c = adding-of _ _ (passed _ _ c.check_adding.ensures c.in_default.is)

pub returns : goal.returns
returns c = c.add_positions.ensures ∙ grown _ _ (passed _ _ c.check_adding.ensures c.in_default.is)
