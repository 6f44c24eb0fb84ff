-- What the mean of a box leans on: the checks that its callers have made.
use Rattle.std.specs.Prelude.{ℕ, ◌+◌, ◌*◌, ◌<◌, ◌≤◌, ◌≡◌, true, List, length}
use Rattle.rules.specs.Tests.{tile_number_fits}

-- row r of the counts is there, and has a column c
pub record CellFits (counts : List ℕ) (cols tiles r c : ℕ) : Type 0 where
  pub number : tile_number_fits tiles ≡ true
  pub room : r * cols + cols ≤ length counts
  pub column : c < cols
