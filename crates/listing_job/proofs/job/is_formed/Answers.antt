-- `listing_job::job::is_formed` meets its contract: the tail is asked only where the head fits, which keeps the sample's cells few.
-- Assumes nothing.
use mathlib.Core.Path.{sym, ◌∙◌, ap}
use native.Mathlib.Omega.{arith}
use Rattle.listing_job.specs.Form.{is_formed, tail_fits}
use Rattle.base.proofs.Bools.{and-go, and-halt}
use Rattle.listing_job.proofs.Forming.{few-cells}
use Rattle.listing_job.proofs.job.is_formed.Goals as goal

pub sample_cells-requires : goal.sample_cells-requires
sample_cells-requires c = sym c.head_fits.ensures ∙ c.if-head_fits.true

pub tail_fits-requires : goal.tail_fits-requires
tail_fits-requires c = omega (arith, c.sample_cells.ensures, few-cells c.args.numbers.now (sym c.head_fits.ensures ∙ c.if-head_fits.true))

pub returns-then-head_fits : goal.returns-then-head_fits
unfolding is_formed
returns-then-head_fits c = and-go _ _ (sym c.head_fits.ensures ∙ c.if-head_fits.true) (c.tail_fits.ensures ∙ ap (tail_fits _) c.sample_cells.ensures)

pub returns-else-head_fits : goal.returns-else-head_fits
unfolding is_formed
returns-else-head_fits c = and-halt _ _ c.head_fits.ensures c.if-head_fits.false
