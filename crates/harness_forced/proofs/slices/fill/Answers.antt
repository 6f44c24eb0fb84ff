-- `harness_forced::slices::fill` meets its contract. The loop's invariant: below i the entries are those of the slices, from i on as they were.
-- Assumes nothing.
use mathlib.Core.Path.{◌∙◌}
use native.Mathlib.Omega.{arith}
use Rattle.base.proofs.Swept.{swept_none, swept-turn, swept_all}
use Rattle.rules.specs.Forced.{no_position}
use Rattle.harness_forced.proofs.slices.fill.Goals as goal

pub loop-i-init : goal.loop-i-init
loop-i-init c = swept_none no_position _ _

pub loop-i-preserved : goal.loop-i-preserved
loop-i-preserved c = swept-turn no_position _ _ _ _ _ (omega arith) c.loop-i.invariant c.entry_at.ensures

pub returns : goal.returns
returns c = c.loop-i.invariant ∙ swept_all no_position _ _ _ (omega arith)
