-- A sample that passed its checks, as the functions below them may count on it.
use Rattle.std.specs.Prelude.{ℕ, ◌*◌, ◌≤◌, ◌≡◌, List, length}
use Rattle.rules.specs.Bounds.{max_sample_side}

pub record Sample (sample : List ℕ) (rows cols : ℕ) : Type 0 where
  pub low : rows ≤ max_sample_side
  pub narrow : cols ≤ max_sample_side
  pub whole : length sample ≡ rows * cols
