-- What the functions beneath the call answer and leave.
use Rattle.std.specs.Prelude.{ℕ, ◌*◌, ◌≤◌, List, take}
use Rattle.base.specs.Refusal.{refusal, Gives}
use Rattle.rules.specs.Bounds.{tile_cells}
use Rattle.rules.specs.Tests.{tiles_in}
use Rattle.rules.specs.Answers.{Answer, answered}
use Rattle.rules.specs.Tiles.{with_tile, store_with, room_check}
use Rattle.tile_seen.specs.Chains.{Chained}

-- tiles into a store: their number, or ROOM and the first of them, as many as fit whole
abbrev pub Gathers : List ℕ → List ℕ → Answer ℕ → List ℕ → Type 0
Gathers tiles old = Gives (answered (refusal (room_check tiles old)) (tiles_in tiles)) (store_with tiles old)

-- one tile more to the n tiles of a store: they are gathered, and, where they fit, chained
pub record Adds (store : List ℕ) (n : ℕ) (tile : List ℕ) (kept : Answer ℕ) (after heads nexts : List ℕ) : Type 0 where
  pub gathered : Gathers (with_tile (take (n * tile_cells) store) tile) store kept after
  pub chained : tiles_in (with_tile (take (n * tile_cells) store) tile) ≤ tiles_in store → Chained (with_tile (take (n * tile_cells) store) tile) heads nexts
