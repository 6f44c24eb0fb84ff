-- `check_sizes::within_bounds` meets its contract, by its two ways out. Assumes nothing.
use borrow.Author.Tests.{le-leb, lt-leb}
use Rattle.base.specs.Counting.{within}
use Rattle.check_sizes.proofs.within_bounds.Goals as goal

pub returns-then-least-n : goal.returns-then-least-n
unfolding within
returns-then-least-n c = simp (le-leb _ _ c.if-least-n.true)

pub returns-else-least-n : goal.returns-else-least-n
unfolding within
returns-else-least-n c = simp (lt-leb _ _ c.if-least-n.false)
