-- `listing_job::job::side_up_to` meets its contract: the upper end is asked only where the lower one holds. Assumes nothing.
use mathlib.Core.Path.{refl}
use borrow.Author.Tests.{le-leb, lt-leb}
use Rattle.base.specs.Counting.{within}
use Rattle.base.proofs.Bools.{and-go, and-halt}
use Rattle.listing_job.proofs.job.side_up_to.Goals as goal

pub returns-then-side-ge1 : goal.returns-then-side-ge1
unfolding within
returns-then-side-ge1 c = and-go _ _ (le-leb _ _ c.if-side-ge1.true) refl

pub returns-else-side-ge1 : goal.returns-else-side-ge1
unfolding within
returns-else-side-ge1 c = and-halt _ _ refl (lt-leb _ _ c.if-side-ge1.false)
