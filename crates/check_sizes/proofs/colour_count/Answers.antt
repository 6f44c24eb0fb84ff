-- `check_sizes::colour_count` meets its contract, by its two ways out. Assumes nothing.
use borrow.Author.Tests.{le-leb, lt-leb}
use Rattle.base.specs.Counting.{within}
use Rattle.rules.specs.Tests.{colour_count}
use Rattle.check_sizes.proofs.colour_count.Goals as goal

pub returns-then-count-ge1 : goal.returns-then-count-ge1
unfolding colour_count within
returns-then-count-ge1 c = simp (le-leb _ _ c.if-count-ge1.true)

pub returns-else-count-ge1 : goal.returns-else-count-ge1
unfolding colour_count within
returns-else-count-ge1 c = simp (lt-leb _ _ c.if-count-ge1.false)
