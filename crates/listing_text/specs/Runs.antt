-- What the functions beneath the program's call lean on.
use Rattle.std.specs.Prelude.{ℕ, ◌+◌, ◌*◌, min, ◌≡◌, true, List, length, get_or}
use Rattle.base.specs.Tables.{tab}
use Rattle.rules.specs.Tests.{board_sides, whole_tiles}
use Rattle.rules.specs.Board.{Panel, Board}
use Rattle.listing_job.specs.Form.{is_formed, setup_of}
use Rattle.listing_job.specs.declared.Setup.{Setup}
use Rattle.listing_steps.specs.Walks.{Small}

-- the planes of a job's board, and its tiles, are such as the fresh board asks
pub record Planes (j : Panel) (b : Board) : Type 0 where
  pub sides : board_sides j.rows j.cols ≡ true
  pub tiles : whole_tiles j.tiles ≡ true
  pub pieces : length b.pieces ≡ j.rows * j.cols
  pub weights : length b.weights ≡ j.rows * j.cols
  pub counts : length b.counts ≡ j.rows * j.cols

-- what the form of the numbers gives
pub record Formed (ns : List ℕ) (s : Setup) : Type 0 where
  pub formed : is_formed ns ≡ true
  pub is : s ≡ setup_of ns
  pub small : Small ns

-- the sample's cells as bytes; one above 255 is 255, which is above every colour count too
abbrev pub cell_byte : List ℕ → ℕ → ℕ
cell_byte ns k = min 255 (get_or ns (5 + k) 0)

unfoldable pub clipped : List ℕ → ℕ → List ℕ
clipped ns cells = tab cells (cell_byte ns)
