-- Document 01, "Tiles". A tile is nine numbers, row by row; a tile list is one list, nine numbers a tile.
use Rattle.std.specs.Prelude.{ℕ, zero, suc, ◌+◌, ◌-◌, ◌*◌, ◌/◌, ◌%◌, Bool, List, [], ◌++◌, leb, ltb, eqb, length, get_or, take, drop}
use Rattle.base.specs.Counting.{pick, every, some}
use Rattle.base.specs.Tables.{tab}
use Rattle.base.specs.Refusal.{Checks, ◌unless◌, ◌then◌, refusal, unless_refused}
use Rattle.rules.specs.Bounds.{tile_cells, SHAPE, LENGTH, COUNT, CELL, ROOM}
use Rattle.rules.specs.Tests.{sample_sides, has_length, whole_tiles, tiles_in, colour_count, none_above}
use Rattle.rules.specs.Answers.{Answer, answered}
use Rattle.rules.specs.Grid.{cell_at, entry_of, on_grid}
use Rattle.rules.specs.Sets.{set_of}
use Rattle.rules.specs.declared.TileBitset.{TileBitset}

-- Cells past the sample are 0
unfoldable pub sample_cell : List ℕ → ℕ → ℕ → ℕ → ℕ → ℕ
sample_cell sample rows cols r c = pick (on_grid rows cols (cell_at r c)) (get_or sample (entry_of cols (cell_at r c)) 0) 0

-- Windows start at rows 0 to max(0, rows-3), columns likewise: so many start along a side
abbrev pub starts_along : ℕ → ℕ
starts_along side = side - 3 + 1

-- the tile of the window that starts at (r, c)
unfoldable pub window_tile : List ℕ → ℕ → ℕ → ℕ → ℕ → List ℕ
window_tile sample rows cols r c = tab tile_cells (λ k. sample_cell sample rows cols (r + k / 3) (c + k % 3))

-- Rotation puts old (2-j, i) at (i, j); reflection puts (i, 2-j) there
abbrev pub turned_from : ℕ → ℕ
turned_from k = (2 - k % 3) * 3 + k / 3

abbrev pub mirrored_from : ℕ → ℕ
mirrored_from k = k / 3 * 3 + (2 - k % 3)

unfoldable pub rotated : List ℕ → List ℕ
rotated tile = tab tile_cells (λ k. get_or tile (turned_from k) 0)

unfoldable pub reflected : List ℕ → List ℕ
reflected tile = tab tile_cells (λ k. get_or tile (mirrored_from k) 0)

-- n successive rotations
unfoldable pub turned : ℕ → List ℕ → List ℕ
turned zero tile = tile
turned (suc n) tile = rotated (turned n tile)

-- Per window: tile, three successive rotations if asked, then the reflection of each so far in that order if asked
abbrev pub turns : Bool → ℕ
turns rotations = pick rotations 4 1

abbrev pub forms : Bool → Bool → ℕ
forms rotations reflections = pick reflections (turns rotations + turns rotations) (turns rotations)

unfoldable pub form : Bool → ℕ → List ℕ → List ℕ
form rotations i tile =
    pick (ltb i (turns rotations)) (turned i tile) (reflected (turned (i - turns rotations) tile))

-- variant v of a sample: the windows row by row, the forms of one together
unfoldable pub variant : List ℕ → ℕ → ℕ → Bool → Bool → ℕ → List ℕ
variant sample rows cols rotations reflections v =
    let window : ℕ = v / forms rotations reflections in
    form rotations (v % forms rotations reflections) (window_tile sample rows cols (window / starts_along cols) (window % starts_along cols))

abbrev pub variants : ℕ → ℕ → Bool → Bool → ℕ
variants rows cols rotations reflections = starts_along rows * starts_along cols * forms rotations reflections

-- tile n of a list equals a tile
unfoldable pub same_tile : List ℕ → List ℕ → ℕ → Bool
same_tile tiles tile n = every tile_cells (λ k. eqb (get_or tiles (n * tile_cells + k) 0) (get_or tile k 0))

unfoldable pub has_tile : List ℕ → List ℕ → Bool
has_tile tiles tile = some (tiles_in tiles) (same_tile tiles tile)

-- Only the first of equal tiles is kept: the distinct ones of f 0, .., f (n-1)
unfoldable pub with_tile : List ℕ → List ℕ → List ℕ
with_tile tiles tile = pick (has_tile tiles tile) tiles (tiles ++ tile)

unfoldable pub distinct : ℕ → (ℕ → List ℕ) → List ℕ
distinct zero f = []
distinct (suc n) f = with_tile (distinct n f) (f n)

unfoldable pub extracted : List ℕ → ℕ → ℕ → Bool → Bool → List ℕ
extracted sample rows cols rotations reflections =
    distinct (variants rows cols rotations reflections) (variant sample rows cols rotations reflections)

-- the first tiles, as many as fit whole, over the first bytes of the store; its other bytes are never touched
unfoldable pub store_with : List ℕ → List ℕ → List ℕ
store_with tiles store =
    let first : List ℕ = take (tiles_in store * tile_cells) tiles in
    first ++ drop (length first) store

abbrev pub sample_checks : List ℕ → ℕ → ℕ → ℕ → Checks
sample_checks sample rows cols count =
    SHAPE unless sample_sides rows cols
    then LENGTH unless has_length sample (rows * cols)
    then COUNT unless colour_count count
    then CELL unless none_above sample count

-- ROOM: the distinct tiles are more than the store's length divided by 9
abbrev pub room_check : List ℕ → List ℕ → Checks
room_check tiles store = ROOM unless leb (tiles_in tiles) (tiles_in store)

abbrev pub extraction_checks : List ℕ → ℕ → ℕ → ℕ → Bool → Bool → List ℕ → Checks
extraction_checks sample rows cols count rotations reflections store =
    sample_checks sample rows cols count then room_check (extracted sample rows cols rotations reflections) store

unfoldable pub extraction : List ℕ → ℕ → ℕ → ℕ → Bool → Bool → List ℕ → Answer ℕ
extraction sample rows cols count rotations reflections store =
    answered
    (refusal (extraction_checks sample rows cols count rotations reflections store))
    (tiles_in (extracted sample rows cols rotations reflections))

-- a refusal before ROOM touches nothing; ROOM leaves the first tiles, as many as fit whole
unfoldable pub store_after : List ℕ → ℕ → ℕ → ℕ → Bool → Bool → List ℕ → List ℕ
store_after sample rows cols count rotations reflections store =
    unless_refused (refusal (sample_checks sample rows cols count))
    (store_with (extracted sample rows cols rotations reflections) store)
    store

abbrev pub membership_checks : List ℕ → ℕ → Checks
membership_checks tile count =
    COUNT unless colour_count count
    then CELL unless none_above tile count

-- Membership is the set of a tile's colours, 0 left out
unfoldable pub membership : List ℕ → ℕ → Answer TileBitset
membership tile count =
    answered (refusal (membership_checks tile count))
    (set_of count (λ t. some tile_cells (λ k. eqb t (get_or tile k 0))))

-- how many tiles a list has
unfoldable pub tiles_counted : List ℕ → Answer ℕ
tiles_counted tiles = answered (refusal (LENGTH unless whole_tiles tiles)) (tiles_in tiles)
