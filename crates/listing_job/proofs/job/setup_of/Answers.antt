-- `listing_job::job::setup_of` meets its contract: each number is read where the definition has it, behind the sample's few cells. Assumes nothing.
use native.Mathlib.Omega.{arith}
use Rattle.listing_job.proofs.Forming.{few-cells, setup-is, sides-of}
use Rattle.listing_job.proofs.job.setup_of.Goals as goal

pub overflow_add-cells : goal.overflow_add-cells
overflow_add-cells c = omega (arith, c.sample_cells-cells.ensures, few-cells c.args.numbers.now c.requires)

pub overflow_add-cells-2 : goal.overflow_add-cells-2
overflow_add-cells-2 c = omega (arith, c.sample_cells-cells.ensures, few-cells c.args.numbers.now c.requires)

pub returns : goal.returns
returns c = setup-is _ c.sample_cells-cells.ensures (sides-of c.number.ensures c.number-2.ensures c.sides.ensures) c.number-6.ensures c.number-7.ensures c.sides-2.ensures c.number-3.ensures c.number-4.ensures c.number-5.ensures
