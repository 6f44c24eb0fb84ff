-- What the pieces of a box of cells add to the weight of a cell, as the loops take it, and what these lean on. The function itself is
-- stated by demand 3's formula.
use Rattle.std.specs.Prelude.{ℕ, ◌+◌, ◌-◌, ◌*◌, ◌≤◌, min, ◌≡◌, List, length}
use Rattle.base.specs.Counting.{pick, sum}
use Rattle.rules.specs.Bounds.{max_board_side, max_cells}
use Rattle.rules.specs.Grid.{cell_at, entry_of, distance, laid_on}
use Rattle.rules.specs.Board.{share}
use Rattle.rules.specs.declared.Cell.{Cell}
use Rattle.rules.specs.declared.Span.{Span}
use Rattle.rules.specs.declared.Spans.{Spans}

-- the span of radius 2 round an index of a side, its end clipped to the side
abbrev pub near_span : ℕ → ℕ → Span
near_span x side = record { 0 = x - 2; 1 = min (x + 3) side }

-- the spans of radius 2 round a cell
abbrev pub near_spans : ℕ → ℕ → Cell → Spans
near_spans rows cols cell = record { rows = near_span cell.0 rows; cols = near_span cell.1 cols }

-- f over the indices of a span, added up
unfoldable pub sum_over : Span → (ℕ → ℕ) → ℕ
sum_over span f = sum (span.1 - span.0) (λ i. f (span.0 + i))

-- what stands on (r, c) adds to the weight of a cell
abbrev pub added_by : List ℕ → ℕ → Cell → ℕ → ℕ → ℕ
added_by pieces cols cell r c = pick (laid_on pieces (entry_of cols (cell_at r c))) (share (distance (cell_at r c) cell)) 0

-- what stands in the columns of a span adds, in row r, and then in the rows of another
unfoldable pub row_adds : List ℕ → ℕ → Cell → Span → ℕ → ℕ
row_adds pieces cols cell colspan r = sum_over colspan (added_by pieces cols cell r)

unfoldable pub box_adds : List ℕ → ℕ → Cell → Spans → ℕ
box_adds pieces cols cell spans = sum_over spans.rows (row_adds pieces cols cell spans.cols)

-- a row of a plane in bounds, and a plane in bounds
pub record InRow (pieces : List ℕ) (cols row : ℕ) : Type 0 where
  pub wide : cols ≤ max_board_side
  pub ends : row * cols + cols ≤ length pieces
  pub short : length pieces ≤ max_cells

pub record InBoard (pieces : List ℕ) (rows cols : ℕ) : Type 0 where
  pub tall : rows ≤ max_board_side
  pub wide : cols ≤ max_board_side
  pub long : length pieces ≡ rows * cols
