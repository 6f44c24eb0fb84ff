-- What the reading of a board and the fit test lean on: the bounds that the checks of document 01 give where they pass.
use Rattle.std.specs.Prelude.{ℕ, ◌+◌, ◌*◌, ◌<◌, ◌≤◌, ◌≡◌, List, length, get_or}
use Rattle.rules.specs.Bounds.{max_colours, max_board_side}

-- a board that can be read
pub record Readable (pieces : List ℕ) (rows cols : ℕ) : Type 0 where
  pub tall : rows ≤ max_board_side
  pub wide : cols ≤ max_board_side
  pub plane : length pieces ≡ rows * cols
  pub least : (k : ℕ) → k < length pieces → 1 ≤ get_or pieces k 0
  pub most : (k : ℕ) → k < length pieces → get_or pieces k 0 ≤ max_colours + 1

-- a cell of the grid
pub record CellOn (rows cols row col : ℕ) : Type 0 where
  pub rowwise : row < rows
  pub colwise : col < cols

-- cells that were read: each holds a colour, or 0
pub record Painted (cells : List ℕ) : Type 0 where
  pub known : (i : ℕ) → get_or cells i 0 ≤ max_colours
