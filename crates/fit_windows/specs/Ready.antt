-- What the functions beneath the calls lean on: the bounds that the checks of document 01 give where they pass.
use Rattle.std.specs.Prelude.{ℕ, ◌*◌, ◌<◌, ◌≤◌, ◌≡◌, List, length, get_or}
use Rattle.rules.specs.Bounds.{max_colours, max_tiles, tile_cells}
use Rattle.rules.specs.Tests.{tiles_in}
use Rattle.fit_pattern.specs.Ready.{Readable}

-- a board and tiles that can be tried on its windows
pub record Countable (pieces : List ℕ) (rows cols : ℕ) (tiles : List ℕ) : Type 0 where
  pub board : Readable pieces rows cols
  pub whole : tiles_in tiles * tile_cells ≡ length tiles
  pub few : tiles_in tiles ≤ max_tiles

-- tiles whose colours a set can hold
pub record Coloured (tiles : List ℕ) : Type 0 where
  pub whole : tiles_in tiles * tile_cells ≡ length tiles
  pub known : (i : ℕ) → i < length tiles → get_or tiles i 0 ≤ max_colours

-- a board, its tiles and its colours as the checks leave them
pub record Ready (pieces : List ℕ) (rows cols : ℕ) (tiles : List ℕ) (count : ℕ) : Type 0 where
  pub tried : Countable pieces rows cols tiles
  pub colours : count ≤ max_colours
  pub known : (i : ℕ) → i < length tiles → get_or tiles i 0 ≤ count
