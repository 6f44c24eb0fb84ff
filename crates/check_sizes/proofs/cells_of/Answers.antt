-- `check_sizes::cells_of` meets its contract: two sides in bounds make a product that fits. Assumes nothing.
use native.Mathlib.Omega.{arith}
use Rattle.base.proofs.Numbers.{mul-le}
use Rattle.check_sizes.proofs.Sides.{board-rows, board-cols}
use Rattle.check_sizes.proofs.cells_of.Goals as goal

pub overflow_mul-result : goal.overflow_mul-result
overflow_mul-result c = record { fits = omega (arith, mul-le (board-rows _ _ c.requires).1 (board-cols _ _ c.requires).1) }
