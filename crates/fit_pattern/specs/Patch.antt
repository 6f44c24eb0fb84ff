-- The patch of 5x5 cells round a cell, read once, and a window where it stands in it.
use Rattle.std.specs.Prelude.{ℕ, ◌+◌, ◌-◌, ◌*◌, ◌/◌, ◌%◌, ◌&&◌, List, leb, get_or}
use Rattle.base.specs.Counting.{pick}
use Rattle.rules.specs.Grid.{cell_at, entry_or_past, colour_on}
use Rattle.rules.specs.declared.Cell.{Cell}

-- the entry of the cell two up and two left of a cell; past the edge where that is above or left of the grid
unfoldable pub entry_back : ℕ → ℕ → Cell → ℕ
entry_back rows cols cell = pick (leb 2 cell.0 && leb 2 cell.1) (entry_or_past rows cols (cell_at (cell.0 - 2) (cell.1 - 2))) (rows * cols)

-- the colour at each place of the patch round a cell, 0 where it is bare
abbrev pub patch_round : ℕ → ℕ → List ℕ → Cell → ℕ → ℕ
patch_round rows cols pieces cell j = colour_on pieces (entry_back rows cols (cell_at (cell.0 + j / 5) (cell.1 + j % 5)))

-- where the window that has the cell at place q starts in the patch
abbrev pub window_in : ℕ → ℕ
window_in q = (2 - q / 3) * 5 + (2 - q % 3)

-- the nine cells of the window that starts at a cell of what was read, whose rows have so many cells
unfoldable pub shown_in : List ℕ → ℕ → ℕ → ℕ → ℕ
shown_in cells width at i = get_or cells (at + (i / 3 * width + i % 3)) 0

-- the window that has the cell at place q, where it stands in the patch
abbrev pub window_of : List ℕ → ℕ → ℕ → ℕ
window_of patch q = shown_in patch 5 (window_in q)
