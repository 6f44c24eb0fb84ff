-- `probability_normal::gather` meets its contract: a sweep, which reads another plane. Assumes nothing.
use mathlib.Core.Path.{refl}
use Rattle.base.proofs.Sweep.{sweep-none, sweep-turn, sweep-all}
use borrow.Author.Rules.{rules}
use Rattle.probability_normal.proofs.gather.Goals as goal

pub loop-t-init : goal.loop-t-init
loop-t-init c = sweep-none

pub loop-t-preserved : goal.loop-t-preserved
loop-t-preserved c = sweep-turn c.loop-t.invariant (search rules) refl

pub returns : goal.returns
returns c = sweep-all c.loop-t.invariant (search rules)
