-- `fit_pattern::pair` meets its contract: two bytes, the higher times 256, fit 64 bits and make one number of two cells, by `pair_is`. Assumes nothing.
use Prim.Native.Nat.{◌+◌}
use native.Mathlib.Omega.{arith}
use Rattle.fit_pattern.proofs.Packed.{pair_is}
use Rattle.fit_pattern.proofs.pair.Goals as goal

pub overflow_cast-low : goal.overflow_cast-low
overflow_cast-low c = record { fits = omega (arith, c.type_inv.cells c.args.at) }

pub overflow_cast-high : goal.overflow_cast-high
overflow_cast-high c = record { fits = omega (arith, c.type_inv.cells (c.args.at + 1)) }

pub overflow_mul-result : goal.overflow_mul-result
overflow_mul-result c = record { fits = omega (arith, c.type_inv.cells (c.args.at + 1)) }

pub overflow_add-result : goal.overflow_add-result
overflow_add-result c =
    let at = c.args.at in
    record { fits = omega (arith, c.type_inv.cells (at + 1), c.type_inv.cells at) }

pub returns : goal.returns
returns c = pair_is c.args.cells.now c.args.at
