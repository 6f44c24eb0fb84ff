-- `tiles::membership::colours_of` meets its contract: the loop inserts cell by cell. Assumes nothing.
use Prim.Native.Nat.{◌≤◌}
use native.Mathlib.Omega.{arith}
use lib.ListN.{get_or}
use Rattle.check_sizes.proofs.Sides.{none_above-entry, count_most}
use Rattle.tiles.proofs.Cells.{to_none, to-turn}
use Rattle.tiles.proofs.membership.colours_of.Goals.{In-loop-cell}
use Rattle.tiles.proofs.membership.colours_of.Goals as goal

pub loop-cell-init : goal.loop-cell-init
loop-cell-init c = to_none c.args.tile c.args.count

-- the cell at which the loop is holds a colour of the count, or 0
below : (c : In-loop-cell) → get_or c.args.tile c.loop-cell.cell-index 0 ≤ c.args.count
below c = none_above-entry c.args.tile c.args.count c.requires.1 c.loop-cell.cell-index (omega arith)

pub with_colour-bits-requires : goal.with_colour-bits-requires
with_colour-bits-requires c = omega (arith, c.from.ensures, below (goal.at.with_colour-bits-requires c).In-loop-cell, count_most _ c.requires.0)

pub loop-cell-preserved : goal.loop-cell-preserved
loop-cell-preserved c =
    to-turn c.args.tile c.args.count _ _ _ c.loop-cell.invariant (below (goal.at.loop-cell-preserved c).In-loop-cell)
    (rw c.from.ensures at c.with_colour-bits.ensures)
