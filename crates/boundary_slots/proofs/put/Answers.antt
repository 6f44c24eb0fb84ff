-- `boundary_slots::put` meets its contract: within the slice it stores, past its end nothing changes. Assumes nothing.
use Rattle.boundary_slots.proofs.Storing.{set_past}
use Rattle.boundary_slots.specs.Slots.{put}
use mathlib.Core.Path.{sym}
use borrow.Author.Rules.{rules}
use Rattle.boundary_slots.proofs.put.Goals as goal

pub returns-then-at-entries : goal.returns-then-at-entries
unfolding put
returns-then-at-entries g c = search rules

pub returns-else-at-entries : goal.returns-else-at-entries
unfolding put
returns-else-at-entries g c = sym (set_past _ _ _ c.if-at-entries.false)
