-- `listing_job::job::sides_up_to` meets its contract: the columns are asked only where the rows are in bounds. Assumes nothing.
use mathlib.Core.Path.{sym, ◌∙◌}
use Rattle.listing_job.specs.Form.{sides_up_to}
use Rattle.base.proofs.Bools.{and-go, and-halt}
use Rattle.listing_job.proofs.job.sides_up_to.Goals as goal

pub returns-then-side_up_to : goal.returns-then-side_up_to
unfolding sides_up_to
returns-then-side_up_to c = and-go _ _ (sym c.side_up_to.ensures ∙ c.if-side_up_to.true) c.side_up_to-then-side_up_to.ensures

pub returns-else-side_up_to : goal.returns-else-side_up_to
unfolding sides_up_to
returns-else-side_up_to c = and-halt _ _ c.side_up_to.ensures c.if-side_up_to.false
