-- `tiles::add_tile` meets its contract: the tile is there, or there is no room for it, or it is put. Assumes nothing.
use mathlib.Core.Path.{sym, ◌∙◌}
use native.Mathlib.Omega.{arith}
use Rattle.std.proofs.lemmas.Slice.{put_mid-paste}
use Rattle.tiles.proofs.Store.{held, no_room, put}
use Rattle.tiles.proofs.add_tile.Goals as goal

pub returns-then-has_tile : goal.returns-then-has_tile
returns-then-has_tile c = held _ _ _ _ _ c.requires.0 c.requires.1 c.requires.2 c.requires.3 (sym c.has_tile.ensures ∙ c.if-has_tile.true)

pub returns-then-store-at-lt-TILE_CELLS : goal.returns-then-store-at-lt-TILE_CELLS
returns-then-store-at-lt-TILE_CELLS c = no_room _ _ _ _ _ c.requires.0 c.requires.1 c.requires.2 c.requires.3 (sym c.has_tile.ensures ∙ c.if-has_tile.false) c.if-store-at-lt-TILE_CELLS.true

pub returns : goal.returns
returns c =
    put _ _ _ _ _ c.requires.0 c.requires.1 c.requires.2 c.requires.3 (sym c.has_tile.ensures ∙ c.if-has_tile.false) _ _ _ _ c.if-store-at-lt-TILE_CELLS.false
    c.bucket_of-bucket.ensures (put_mid-paste _ _ _ _ _ 9 c.copy_from_slice.ensures.after (omega arith) (sym c.requires.2)) c.note_tile.ensures
