-- Cells and their entries in a plane, and the shape of a grid: all that the rules ask of it. Entries are counted row by row from 0; a 3x3
-- window or region is named by the cell at which it starts, its places are counted row by row from 0 to 8.
use Rattle.std.specs.Prelude.{ℕ, ◌+◌, ◌-◌, ◌*◌, ◌/◌, ◌%◌, max, Bool, ◌&&◌, List, leb, ltb, get_or}
use Rattle.base.specs.Counting.{pick}
use Rattle.rules.specs.Bounds.{bare}
use Rattle.rules.specs.declared.Cell.{Cell}

-- the cell in row r and column c
abbrev pub cell_at : ℕ → ℕ → Cell
cell_at r c = record { 0 = r; 1 = c }

-- the entry of a cell in a plane that is so many columns wide, and the cell of an entry
abbrev pub entry_of : ℕ → Cell → ℕ
entry_of cols k = k.0 * cols + k.1

abbrev pub cell_with : ℕ → ℕ → Cell
cell_with cols k = cell_at (k / cols) (k % cols)

-- a cell of a grid
abbrev pub on_grid : ℕ → ℕ → Cell → Bool
on_grid rows cols k = ltb k.0 rows && ltb k.1 cols

pub record Shape : Type 0 where
  -- of the nine windows that hold cell k: the one that has it at place q is kept, and starts at this cell
  pub kept : ℕ → ℕ → Bool
  pub start : ℕ → ℕ → ℕ
  -- the cell at place i of what starts at s; where that is past the edge, an entry that no cell has
  pub cell : ℕ → ℕ → ℕ
  -- what starts at s does not pass the edge
  pub whole : ℕ → Bool
  -- the distance of two cells
  pub apart : ℕ → ℕ → ℕ

-- how a grid of so many rows and columns hangs together
abbrev pub Kind : Type 0
Kind = ℕ → ℕ → Shape

-- the entry of a cell, and that of no cell where it is past the edge
unfoldable pub entry_or_past : ℕ → ℕ → Cell → ℕ
entry_or_past rows cols k = pick (on_grid rows cols k) (entry_of cols k) (rows * cols)

abbrev pub gap : ℕ → ℕ → ℕ
gap a b = (a - b) + (b - a)

-- Distance is the larger of row and column difference
abbrev pub distance : Cell → Cell → ℕ
distance j k = max (gap j.0 k.0) (gap j.1 k.1)

-- The flat board. A window starting above or left is skipped; one past the bottom or right stays
unfoldable pub flat : Kind
flat rows cols =
    record {
      kept = λ k q. leb (q / 3) (k / cols) && leb (q % 3) (k % cols);
      start = λ k q. entry_of cols (cell_at (k / cols - q / 3) (k % cols - q % 3));
      cell = λ s i. entry_or_past rows cols (cell_at (s / cols + i / 3) (s % cols + i % 3));
      whole = λ s. ltb (s / cols + 2) rows && ltb (s % cols + 2) cols;
      apart = λ j k. distance (cell_with cols j) (cell_with cols k);
    }

-- the colour that stands on cell k, 0 where it is bare or past the edge
abbrev pub colour_on : List ℕ → ℕ → ℕ
colour_on pieces k = get_or pieces k 0 - bare

-- a piece stands on cell k
abbrev pub laid_on : List ℕ → ℕ → Bool
laid_on pieces k = ltb bare (get_or pieces k 0)
