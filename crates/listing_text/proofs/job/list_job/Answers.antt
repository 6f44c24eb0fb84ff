-- `listing_text::job::list_job` meets its contract: a sample has 256 cells at the most, so the store holds them. Assumes nothing.
use mathlib.Core.Path.{sym}
use native.Mathlib.Omega.{arith}
use lib.ListN.{length-take}
use Rattle.listing_text.proofs.Telling.{cells-few}
use Rattle.listing_text.proofs.job.list_job.Goals as goal

pub overflow_mul-cells : goal.overflow_mul-cells
overflow_mul-cells c = omega (arith, cells-few c.args.numbers.now c.args.setup c.requires)

pub slice_bounds-sample-end : goal.slice_bounds-sample-end
slice_bounds-sample-end c = omega (arith, cells-few c.args.numbers.now c.args.setup c.requires)

pub slice_bounds-list_sample-end : goal.slice_bounds-list_sample-end
slice_bounds-list_sample-end c = sym (simp length-take (omega (arith, cells-few c.args.numbers.now c.args.setup c.requires)))

pub list_sample-requires : goal.list_sample-requires
list_sample-requires c = (c.requires, simp length-take (omega (arith, cells-few c.args.numbers.now c.args.setup c.requires)))
