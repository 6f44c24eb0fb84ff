-- The flat board at a cell, in rows and columns: the entry of a cell on the grid and past its edge, and each field that windows ask of
-- the shape. Nothing else about windows opens `flat`.
--     on-grid, off-rows, off-cols    the entry of a cell, on the grid and past its edge
--     pattern-is    place i of what starts at a cell is i / 3 down and i % 3 right of it, and shows the colour there
--     start_is, kept-is     the window that has the cell at place q starts q / 3 above and q % 3 left of it, and is kept unless that is
--                   above or left of the grid
--     is-kept       the test that says so
-- Assumes nothing.
use Prim.Native.Nat.{ℕ, ◌+◌, ◌-◌, ◌/◌, ◌%◌, ◌*◌, ◌<◌, ◌≤◌}
use mathlib.Core.Path.{◌≡◌, ◌∙◌}
use mathlib.Core.Bool.{true, ◌&&◌}
use mathlib.Core.List.{List}
use borrow.Author.Tests.{lt-ltb, le-ltb, le-leb}
use lib.Dec.{leb, ltb}
use Rattle.base.proofs.Bools.{and_both, and-no-left, and-no-right, pick_yes, pick_no}
use Rattle.base.proofs.Numbers.{row_of, col-of}
use Rattle.rules.specs.Grid.{cell_at, entry_of, on_grid, entry_or_past, flat, colour_on}
use Rattle.rules.specs.Fit.{pattern}
use Rattle.rules.specs.declared.Cell.{Cell}

-- the cell at place i of what starts at a cell, and the start of the window that has a cell at place q
abbrev pub place_from : Cell → ℕ → Cell
place_from s i = cell_at (s.0 + i / 3) (s.1 + i % 3)

abbrev pub start_for : Cell → ℕ → Cell
start_for k q = cell_at (k.0 - q / 3) (k.1 - q % 3)

module _ (rows cols : ℕ) (cell : Cell) where
  pub on-grid : cell.0 < rows → cell.1 < cols → entry_or_past rows cols cell ≡ entry_of cols cell
  unfolding entry_or_past
  on-grid p q = pick_yes (on_grid rows cols cell) _ _ (and_both _ _ (lt-ltb cell.0 rows p) (lt-ltb cell.1 cols q))

  pub off-rows : rows ≤ cell.0 → entry_or_past rows cols cell ≡ rows * cols
  unfolding entry_or_past
  off-rows p = pick_no (on_grid rows cols cell) _ _ (and-no-left _ _ (le-ltb cell.0 rows p))

  pub off-cols : cols ≤ cell.1 → entry_or_past rows cols cell ≡ rows * cols
  unfolding entry_or_past
  off-cols q = pick_no (on_grid rows cols cell) _ _ (and-no-right (ltb cell.0 rows) _ (le-ltb cell.1 cols q))

  module _ (i : ℕ) (colwise : cell.1 < cols) where
    row_is : entry_of cols cell / cols ≡ cell.0
    row_is = row_of cell.0 colwise

    col-is : entry_of cols cell % cols ≡ cell.1
    col-is = col-of cell.0 colwise

    pub pattern-is : (pieces : List ℕ) → colour_on pieces (entry_or_past rows cols (place_from cell i)) ≡ pattern (flat rows cols) pieces (entry_of cols cell) i
    unfolding flat
    pattern-is pieces = rw (row_is, col-is)

    pub start_is : (flat rows cols).start (entry_of cols cell) i ≡ entry_of cols (start_for cell i)
    unfolding flat
    start_is = rw (row_is, col-is)

    pub kept-is : (flat rows cols).kept (entry_of cols cell) i ≡ (leb (i / 3) cell.0 && leb (i % 3) cell.1)
    unfolding flat
    kept-is = rw (row_is, col-is)

    pub is-kept : i / 3 ≤ cell.0 → i % 3 ≤ cell.1 → (flat rows cols).kept (entry_of cols cell) i ≡ true
    is-kept p q = kept-is ∙ and_both _ _ (le-leb (i / 3) cell.0 p) (le-leb (i % 3) cell.1 q)
