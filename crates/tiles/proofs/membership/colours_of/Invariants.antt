-- `tiles::membership::colours_of` meets its contract: the loop inserts cell by cell. Assumes nothing.
use mathlib.Core.Path.{◌≡◌}
use Rattle.tiles.proofs.Cells.{colours_to}
use Rattle.tiles.proofs.membership.colours_of.Given as goal

abbrev pub invariant-loop-cell : goal.invariant-loop-cell
invariant-loop-cell l = l.bits ≡ colours_to l.cell-items l.count l.cell-index
