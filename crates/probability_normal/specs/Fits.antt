-- What taking the probabilities of a place leans on: the checks that its callers have made.
use Rattle.std.specs.Prelude.{ℕ, ◌*◌, ◌≡◌, true, List, length, Float}
use Rattle.rules.specs.Tests.{board_sides}

-- the planes of a normalising call
pub record PlaceFits (plane out : List Float) (rows cols count : ℕ) : Type 0 where
  pub sides : board_sides rows cols ≡ true
  pub long : length plane ≡ count * (rows * cols)
  pub out-long : length out ≡ count
