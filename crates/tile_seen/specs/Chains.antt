-- How the code finds a tile among those kept, in place of the text's sorted set: each tile has a bucket, and the tiles of a bucket are
-- chained, the latest first. What is answered is rules' `has_tile`; nothing here is a rule.
use Rattle.std.specs.Prelude.{ℕ, zero, suc, ◌+◌, ◌*◌, ◌%◌, ◌<◌, ◌≤◌, ◌≡◌, Bool, List, eqb, length, get_or, set}
use Rattle.base.specs.Counting.{pick}
use Rattle.rules.specs.Bounds.{max_tiles, tile_cells}
use Rattle.rules.specs.Tests.{tiles_in}

abbrev pub buckets : ℕ
buckets = 4096

abbrev pub spread : ℕ
spread = 61

-- the bucket of a tile's first k cells, and of the tile
unfoldable pub bucket_to : (ℕ → ℕ) → ℕ → ℕ
bucket_to cell zero = 0
bucket_to cell (suc k) = (bucket_to cell k * spread + cell k) % buckets

unfoldable pub bucket_of : (ℕ → ℕ) → ℕ
bucket_of cell = bucket_to cell tile_cells

-- the cells of tile n of a list; that it is in bucket h
unfoldable pub cells_of : List ℕ → ℕ → ℕ → ℕ
cells_of tiles n k = get_or tiles (n * tile_cells + k) 0

unfoldable pub in_bucket : List ℕ → ℕ → ℕ → Bool
in_bucket tiles h n = eqb (bucket_of (cells_of tiles n)) h

-- one more than the last number below n of which f holds; 0 where there is none
unfoldable pub last_below : ℕ → (ℕ → Bool) → ℕ
last_below zero f = 0
last_below (suc n) f = pick (f n) (suc n) (last_below n f)

-- for each bucket its last tile, for each tile the last one before it in its bucket; each counted from 1, 0 where there is none
pub record Chained (tiles heads nexts : List ℕ) : Type 0 where
  pub few : tiles_in tiles ≤ max_tiles
  pub wide : length heads ≡ buckets
  pub long : length nexts ≡ max_tiles
  pub head : (h : ℕ) → h < buckets → get_or heads h 0 ≡ last_below (tiles_in tiles) (in_bucket tiles h)
  pub next : (n : ℕ) → n < tiles_in tiles → get_or nexts n 0 ≡ last_below n (in_bucket tiles (bucket_of (cells_of tiles n)))

-- tile n, of this bucket, is noted: it heads its bucket, and the one that did comes after it
pub record Notes (n bucket : ℕ) (heads nexts heads_after nexts_after : List ℕ) : Type 0 where
  pub heading : heads_after ≡ set heads bucket (n + 1)
  pub linking : nexts_after ≡ set nexts n (get_or heads bucket 0)
