-- Document 01, "Fit": how many tiles fit a region, and which colours fit a cell.
use Rattle.std.specs.Prelude.{ℕ, ◌+◌, ◌*◌, Bool, not, ◌&&◌, ◌||◌, List, [], ◌∷◌, eqb, get_or}
use Rattle.base.specs.Counting.{every, some, tally}
use Rattle.base.specs.Refusal.{Checks, ◌unless◌, ◌then◌, refusal}
use Rattle.rules.specs.Bounds.{tile_cells, SHAPE, LENGTH, COUNT, CELL, PLACE}
use Rattle.rules.specs.Tests.{board_sides, has_length, whole_tiles, tiles_in, colour_count, none_above, pieces_stored, on_wall, offset_fits, on_board}
use Rattle.rules.specs.Answers.{Answer, answered}
use Rattle.rules.specs.Sets.{set_of}
use Rattle.rules.specs.Places.{cell_of}
use Rattle.rules.specs.Grid.{Shape, Kind, entry_of, on_grid, colour_on}
use Rattle.rules.specs.declared.World.{World}
use Rattle.rules.specs.declared.Offset.{Offset}
use Rattle.rules.specs.declared.Cell.{Cell}
use Rattle.rules.specs.declared.TileBitset.{TileBitset}

-- the 3x3 pattern of what starts at s: the colour at each place, 0 where it is bare
abbrev pub pattern : Shape → List ℕ → ℕ → ℕ → ℕ
pattern g pieces s i = colour_on pieces (g.cell s i)

-- A tile fits a pattern when it equals it wherever the pattern isn't bare
unfoldable pub agrees : ℕ → ℕ → Bool
agrees colour cell = eqb colour 0 || eqb colour cell

abbrev pub agrees_at : List ℕ → (ℕ → ℕ) → ℕ → ℕ → Bool
agrees_at tiles shown n i = agrees (shown i) (get_or tiles (n * tile_cells + i) 0)

unfoldable pub fits_tile : List ℕ → (ℕ → ℕ) → ℕ → Bool
fits_tile tiles shown n = every tile_cells (agrees_at tiles shown n)

-- the number of tiles that fit
unfoldable pub fit_count : List ℕ → (ℕ → ℕ) → ℕ
fit_count tiles shown = tally (tiles_in tiles) (fits_tile tiles shown)

-- tile n fits and has colour t at place q
abbrev pub serves : List ℕ → (ℕ → ℕ) → ℕ → ℕ → ℕ → Bool
serves tiles shown q t n = fits_tile tiles shown n && eqb t (get_or tiles (n * tile_cells + q) 0)

-- there is such a tile
unfoldable pub has_fitting : List ℕ → (ℕ → ℕ) → ℕ → ℕ → Bool
has_fitting tiles shown q t = some (tiles_in tiles) (serves tiles shown q t)

-- the window that has cell k at place q is skipped, or has a fitting tile with colour t at the cell's place
unfoldable pub allows : Shape → List ℕ → List ℕ → ℕ → ℕ → ℕ → Bool
allows g tiles pieces k t q = not (g.kept k q) || has_fitting tiles (pattern g pieces (g.start k q)) q t

-- the place that the cell has in each of its nine windows, in the text's order: the window centred on the cell, then those
-- centred up, left, right and down of it, then on the corners row by row
abbrev pub window_order : List ℕ
window_order = 4 ∷ 7 ∷ 5 ∷ 3 ∷ 1 ∷ 8 ∷ 6 ∷ 2 ∷ 0 ∷ []

-- colour t is left at cell k after the first n windows
unfoldable pub left_after : Shape → List ℕ → List ℕ → ℕ → ℕ → ℕ → Bool
left_after g tiles pieces k n t = every n (λ i. allows g tiles pieces k t (get_or window_order i 0))

-- A colour is listed exactly if every kept window has a fitting tile with that colour at the cell's place. Tile cells holding 0
-- list nothing, since colours are counted from 1
abbrev pub lists : Shape → List ℕ → List ℕ → ℕ → ℕ → Bool
lists g tiles pieces k t = left_after g tiles pieces k 9 t

-- the checks of every call that reads pieces and tiles: what they hold, after their lengths
abbrev pub contents_checks : List ℕ → ℕ → List ℕ → Checks
contents_checks tiles count pieces =
    COUNT unless colour_count count
    then CELL unless none_above tiles count
    then CELL unless pieces_stored pieces count

abbrev pub pieces_checks : List ℕ → ℕ → ℕ → List ℕ → ℕ → Checks
pieces_checks pieces rows cols tiles count =
    SHAPE unless board_sides rows cols
    then LENGTH unless has_length pieces (rows * cols)
    then LENGTH unless whole_tiles tiles
    then contents_checks tiles count pieces

-- the checks of a place that has to lie on the board
abbrev pub place_checks : ℕ → ℕ → World → Offset → Checks
place_checks rows cols place offset =
    PLACE unless on_wall place
    then PLACE unless offset_fits offset
    then PLACE unless on_board rows cols place offset

abbrev pub listing_checks : List ℕ → ℕ → ℕ → List ℕ → ℕ → World → Offset → Checks
listing_checks pieces rows cols tiles count place offset = pieces_checks pieces rows cols tiles count then place_checks rows cols place offset

-- what a listing of cell k finds
abbrev pub found_at : Shape → List ℕ → List ℕ → ℕ → ℕ → TileBitset
found_at g tiles pieces count k = set_of count (lists g tiles pieces k)

unfoldable pub listing : Kind → List ℕ → ℕ → ℕ → List ℕ → ℕ → World → Offset → Answer TileBitset
listing kind pieces rows cols tiles count place offset =
    answered
    (refusal (listing_checks pieces rows cols tiles count place offset))
    (found_at (kind rows cols) tiles pieces count (entry_of cols (cell_of place offset)))

abbrev pub region_checks : List ℕ → ℕ → ℕ → List ℕ → ℕ → Cell → Checks
region_checks pieces rows cols tiles count s = pieces_checks pieces rows cols tiles count then PLACE unless on_grid rows cols s

-- the number of tiles that fit the region that starts at a cell; past the edge it is bare
unfoldable pub region_count : Kind → List ℕ → ℕ → ℕ → List ℕ → ℕ → Cell → Answer ℕ
region_count kind pieces rows cols tiles count s =
    answered
    (refusal (region_checks pieces rows cols tiles count s))
    (fit_count tiles (pattern (kind rows cols) pieces (entry_of cols s)))
