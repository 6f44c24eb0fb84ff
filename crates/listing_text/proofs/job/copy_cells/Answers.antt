-- `listing_text::job::copy_cells` meets its contract. The loop's invariant: the cells passed hold their numbers, the others what they held.
-- Assumes nothing.
use mathlib.Core.Path.{◌∙◌}
use native.Mathlib.Omega.{arith}
use Rattle.base.proofs.Swept.{swept_none, swept-turn, swept_all}
use Rattle.listing_text.specs.Runs.{clipped}
use borrow.Author.Rules.{rules}
use Rattle.listing_text.proofs.job.copy_cells.Goals as goal

pub loop-k-init : goal.loop-k-init
loop-k-init c = (search rules, swept_none _ _ _)

pub overflow_add-k : goal.overflow_add-k
overflow_add-k c = omega (arith, c.requires, c.loop-k.invariant.0)

pub offset_bounds-numbers-k : goal.offset_bounds-numbers-k
offset_bounds-numbers-k c = omega (arith, c.requires, c.loop-k.invariant.0)

pub bounds-numbers-k : goal.bounds-numbers-k
bounds-numbers-k c = omega (arith, c.requires, c.loop-k.invariant.0)

pub loop-k-preserved : goal.loop-k-preserved
loop-k-preserved c = (search rules, swept-turn _ _ _ _ _ _ (omega (arith, c.loop-k-test.true, c.loop-k.invariant.0)) c.loop-k.invariant.1 c.clip.ensures)

pub returns : goal.returns
unfolding clipped
returns c = c.loop-k.invariant.1 ∙ swept_all _ _ _ _ (omega (arith, c.loop-k-test.false, c.loop-k.invariant.0))
