-- What checks answer and what accepted ones give to the calls, beside `accepted-ready` of `fit_windows`.
--     grid-on, place-on    a cell on the grid
--     accepted-counted    a cell of accepted counts
-- Assumes nothing.
use Prim.Native.Nat.{ℕ, ◌*◌, ◌<◌, ◌≤◌}
use mathlib.Core.Path.{◌≡◌, refl}
use mathlib.Core.Bool.{true}
use mathlib.Core.List.{List}
use borrow.Author.Tests.{ltb-true}
use lib.Dec.{ltb}
use lib.ListN.{length}
use Rattle.base.specs.Refusal.{refusal}
use Rattle.base.proofs.Bools.{and_left, and_right}
use Rattle.base.proofs.Numbers.{cell-lt}
use Rattle.base.proofs.Chain.{all_pass}
use Rattle.rules.specs.Bounds.{max_cells, max_tiles}
use Rattle.rules.specs.Places.{cell_of}
use Rattle.rules.specs.Grid.{entry_of, on_grid}
use Rattle.rules.specs.Fit.{place_checks}
use Rattle.rules.specs.Scores.{fraction_checks}
use Rattle.rules.specs.declared.World.{World}
use Rattle.rules.specs.declared.Cell.{Cell}
use Rattle.rules.specs.declared.Offset.{Offset}
use Rattle.check_sizes.proofs.Sides.{few-cells, long, tiles-most}
use Rattle.places.proofs.Indices.{placed, row_below, col-below}
use Rattle.fit_pattern.specs.Ready.{CellOn}

-- a cell that was tested, and the cell of a place that was not refused
pub grid-on : (rows cols : ℕ) (cell : Cell) → on_grid rows cols cell ≡ true → CellOn rows cols cell.0 cell.1
grid-on rows cols cell e =
    record { rowwise = ltb-true cell.0 rows (and_left _ _ e); colwise = ltb-true cell.1 cols (and_right (ltb cell.0 rows) _ e) }

pub place-on : (rows cols : ℕ) (w : World) (o : Offset) → refusal (place_checks rows cols w o) ≡ 0 → CellOn rows cols (cell_of w o).0 (cell_of w o).1
place-on rows cols w o e =
    let p = (placed rows cols w o e).boarded in
    record { rowwise = row_below rows cols w o p; colwise = col-below rows cols w o p }

-- a cell of accepted counts
pub record Counted (counts : List ℕ) (rows cols tiles : ℕ) (cell : Cell) : Type 0 where
  pub few : tiles ≤ max_tiles
  pub cells : rows * cols ≤ max_cells
  pub plane : length counts ≡ rows * cols
  pub inside : entry_of cols cell < rows * cols

pub accepted-counted : (counts : List ℕ) (rows cols tiles : ℕ) (cell : Cell) → refusal (fraction_checks counts rows cols tiles cell) ≡ 0
    → Counted counts rows cols tiles cell
accepted-counted counts rows cols tiles cell e =
    let h = all_pass (fraction_checks counts rows cols tiles cell) refl e in
    let on = grid-on rows cols cell (search) in
    record {
      few = tiles-most tiles (search);
      cells = few-cells rows cols (search);
      plane = long counts (rows * cols) (search);
      inside = cell-lt on.rowwise on.colwise;
    }
