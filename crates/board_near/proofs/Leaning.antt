-- What a call on a plane leans on once the plane and the place have passed.
-- Assumes nothing.
use Prim.Native.Nat.{ℕ, ◌*◌, ◌<◌, ◌≤◌}
use mathlib.Core.Path.{◌≡◌}
use mathlib.Core.Bool.{true}
use mathlib.Core.List.{List}
use native.Mathlib.Omega.{arith}
use lib.ListN.{length}
use Rattle.base.proofs.Numbers.{cell-lt, mul-le}
use Rattle.rules.specs.Bounds.{max_cells}
use Rattle.rules.specs.Tests.{board_sides, has_length, on_board}
use Rattle.rules.specs.Places.{cell_of}
use Rattle.rules.specs.Grid.{entry_of}
use Rattle.rules.specs.declared.World.{World}
use Rattle.rules.specs.declared.Offset.{Offset}
use Rattle.rules.specs.declared.Cell.{Cell}
use Rattle.check_sizes.proofs.Sides.{board-rows, board-cols, long}
use Rattle.places.proofs.Indices.{row_below, col-below}
use Rattle.board_near.specs.Near.{OnPlane}

-- a plane in bounds, and the cell of a place that was not refused
pub on-plane : (plane : List ℕ) (rows cols : ℕ) (w : World) (o : Offset) → board_sides rows cols ≡ true → has_length plane (rows * cols) ≡ true
    → on_board rows cols w o ≡ true → OnPlane plane rows cols (cell_of w o)
on-plane plane rows cols w o s h b =
    record {
      tall = (board-rows rows cols s).1;
      wide = (board-cols rows cols s).1;
      long = long plane (rows * cols) h;
      rowwise = row_below rows cols w o b;
      colwise = col-below rows cols w o b;
    }

-- a cell of such a plane is one of its entries, and the plane is in bounds
pub in-plane : (plane : List ℕ) (rows cols : ℕ) (cell : Cell) → OnPlane plane rows cols cell
    → (entry_of cols cell < length plane) × (length plane ≤ max_cells)
in-plane plane rows cols cell p =
    let a : entry_of cols cell < rows * cols = cell-lt p.rowwise p.colwise in
    let b : rows * cols ≤ max_cells = mul-le p.tall p.wide in
    (omega (arith, p.long), omega (arith, p.long))
