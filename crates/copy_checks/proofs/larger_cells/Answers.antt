-- `copy_checks::larger_cells` meets its contract: no sum is more than the side that it is a part of.
-- Assumes nothing.
use Prim.Native.Nat.{◌≤◌}
use native.Mathlib.Omega.{arith}
use Rattle.check_sizes.proofs.Sides.{board-rows, board-cols}
use Rattle.rules.specs.Places.{new_rows, new_cols}
use Rattle.copy_checks.proofs.larger_cells.Goals.{Start}
use Rattle.copy_checks.proofs.larger_cells.Goals as goal

tall : (c : Start) → new_rows c.args.rows c.args.pads ≤ 64
tall c = (board-rows _ _ c.requires).1

wide : (c : Start) → new_cols c.args.cols c.args.pads ≤ 64
wide c = (board-cols _ _ c.requires).1

pub overflow_add-pads : goal.overflow_add-pads
overflow_add-pads c = record { fits = omega (arith, tall c.before) }

pub overflow_add-pads-2 : goal.overflow_add-pads-2
overflow_add-pads-2 c = record { fits = omega (arith, tall c.before.before) }

pub overflow_add-pads-3 : goal.overflow_add-pads-3
overflow_add-pads-3 c = record { fits = omega (arith, wide c.before.before.before) }

pub overflow_add-pads-4 : goal.overflow_add-pads-4
overflow_add-pads-4 c = record { fits = omega (arith, wide c.before.before.before.before) }
