-- Document 01, "Weights, counts, scores", and the added board: fresh, lay, lift; and what the standing pieces alone say (demand 3).
use Rattle.std.specs.Prelude.{ℕ, ◌+◌, ◌-◌, ◌*◌, Bool, not, ◌&&◌, List, leb, length, get_or, set}
use Rattle.base.specs.Counting.{pick, sum, within}
use Rattle.base.specs.Tables.{tab}
use Rattle.base.specs.Refusal.{Checks, ◌unless◌, ◌then◌, refusal, unless_refused}
use Rattle.rules.specs.Bounds.{max_weight, bare, SHAPE, LENGTH, CELL, TYPE, TAKEN, BARE}
use Rattle.rules.specs.Tests.{board_sides, has_length, whole_tiles, tiles_in, tile_number_fits, none_above}
use Rattle.rules.specs.Answers.{Answer, checked}
use Rattle.rules.specs.Places.{cell_of}
use Rattle.rules.specs.Grid.{Shape, Kind, entry_of, laid_on}
use Rattle.rules.specs.Fit.{pattern, fit_count, contents_checks, place_checks}
use Rattle.rules.specs.declared.World.{World}
use Rattle.rules.specs.declared.Offset.{Offset}

-- "size, tiles and offset": what stays fixed from call to call, and how the grid of that size hangs together
pub record Panel : Type 0 where
  pub kind : Kind
  pub rows : ℕ
  pub cols : ℕ
  pub tiles : List ℕ
  pub offset : Offset

pub record Board : Type 0 where
  pub pieces : List ℕ
  pub weights : List ℕ
  pub counts : List ℕ

abbrev pub shape_of : Panel → Shape
shape_of j = j.kind j.rows j.cols

-- the entry of the cell of a wall coordinate
abbrev pub entry_in : Panel → World → ℕ
entry_in j place = entry_of j.cols (cell_of place j.offset)

-- ---- what the standing pieces alone say

-- 3 at most one cell away, 1 exactly two away
abbrev pub share : ℕ → ℕ
share distance = pick (leb distance 1) 3 (pick (leb distance 2) 1 0)

-- what a piece on cell j adds to the weight of cell k
abbrev pub reach : Shape → ℕ → ℕ → ℕ
reach g j k = share (g.apart j k)

-- each weight is 1, plus 3 per piece at most one cell away, plus 1 per piece exactly two away
unfoldable pub weights_of : Shape → List ℕ → List ℕ
weights_of g pieces = tab (length pieces) (λ k. 1 + sum (length pieces) (λ j. pick (laid_on pieces j) (reach g j k) 0))

-- each count is the number of tiles that fit its region, or all tiles where the region passes the edge
unfoldable pub counts_of : Shape → List ℕ → List ℕ → List ℕ
counts_of g tiles pieces = tab (length pieces) (λ s. pick (g.whole s) (fit_count tiles (pattern g pieces s)) (tiles_in tiles))

unfoldable pub board_of : Shape → List ℕ → List ℕ → Board
board_of g tiles pieces = record { pieces = pieces; weights = weights_of g pieces; counts = counts_of g tiles pieces }

-- ---- the steps

-- Lay adds 3 to weights at distance 0 or 1 and 1 at distance 2; lift subtracts the same, stopping at 0
unfoldable pub raised : Shape → ℕ → List ℕ → List ℕ
raised g k weights = tab (length weights) (λ i. get_or weights i 0 + reach g k i)

unfoldable pub lowered : Shape → ℕ → List ℕ → List ℕ
lowered g k weights = tab (length weights) (λ i. get_or weights i 0 - reach g k i)

-- Both then recount: region starts within distance 2 whose region lies inside the grid; other counts stay
abbrev pub is_recounted : Shape → ℕ → ℕ → Bool
is_recounted g k s = leb (g.apart k s) 2 && g.whole s

unfoldable pub recounted : Shape → List ℕ → List ℕ → ℕ → List ℕ → List ℕ
recounted g tiles pieces k counts =
    tab (length counts) (λ s. pick (is_recounted g k s) (fit_count tiles (pattern g pieces s)) (get_or counts s 0))

-- lay stores the piece, lift stores bare
unfoldable pub laid : Shape → List ℕ → Board → ℕ → ℕ → Board
laid g tiles b k colour =
    let pieces : List ℕ = set b.pieces k (colour + 1) in
    record { pieces = pieces; weights = raised g k b.weights; counts = recounted g tiles pieces k b.counts }

unfoldable pub lifted : Shape → List ℕ → Board → ℕ → Board
lifted g tiles b k =
    let pieces : List ℕ = set b.pieces k bare in
    record { pieces = pieces; weights = lowered g k b.weights; counts = recounted g tiles pieces k b.counts }

-- Fresh: pieces 1, weights 1, counts the number of tiles
unfoldable pub fresh_board : ℕ → ℕ → Board
fresh_board cells tiles =
    record { pieces = tab cells (λ k. bare); weights = tab cells (λ k. 1); counts = tab cells (λ k. tiles) }

-- ---- the calls

-- the lengths of the planes of a board of so many cells; and the sides of a board before them
abbrev pub plane_lengths : ℕ → Board → Checks
plane_lengths cells b =
    LENGTH unless has_length b.pieces cells
    then LENGTH unless has_length b.weights cells
    then LENGTH unless has_length b.counts cells

abbrev pub board_lengths : ℕ → ℕ → Board → Checks
board_lengths rows cols b = SHAPE unless board_sides rows cols then plane_lengths (rows * cols) b

-- what its planes and tiles hold, of which there are n
abbrev pub board_contents : List ℕ → ℕ → Board → ℕ → Checks
board_contents tiles count b n =
    contents_checks tiles count b.pieces
    then CELL unless none_above b.weights max_weight
    then CELL unless none_above b.counts n

-- the checks of a board's planes, for a call that names so many colours
abbrev pub board_checks : Panel → ℕ → Board → Checks
board_checks j count b =
    board_lengths j.rows j.cols b
    then LENGTH unless whole_tiles j.tiles
    then board_contents j.tiles count b (tiles_in j.tiles)

-- what a lay of a colour, and what a lift, asks of cell k
abbrev pub laying_checks : List ℕ → ℕ → ℕ → ℕ → Checks
laying_checks pieces k count colour =
    TYPE unless within 1 count colour
    then TAKEN unless not (laid_on pieces k)

abbrev pub lifting_checks : List ℕ → ℕ → Checks
lifting_checks pieces k = BARE unless laid_on pieces k

abbrev pub lay_checks : Panel → ℕ → Board → World → ℕ → Checks
lay_checks j count b place colour =
    board_checks j count b
    then place_checks j.rows j.cols place j.offset
    then laying_checks b.pieces (entry_in j place) count colour

abbrev pub lift_checks : Panel → ℕ → Board → World → Checks
lift_checks j count b place =
    board_checks j count b
    then place_checks j.rows j.cols place j.offset
    then lifting_checks b.pieces (entry_in j place)

-- what a lay and a lift answer
abbrev pub laying : Panel → ℕ → Board → World → ℕ → Answer Unit
laying j count b place colour = checked (lay_checks j count b place colour)

abbrev pub lifting : Panel → ℕ → Board → World → Answer Unit
lifting j count b place = checked (lift_checks j count b place)

-- the board that a call leaves; a refused call changes nothing
unfoldable pub after_lay : Panel → ℕ → Board → World → ℕ → Board
after_lay j count b place colour =
    unless_refused (refusal (lay_checks j count b place colour)) (laid (shape_of j) j.tiles b (entry_in j place) colour) b

unfoldable pub after_lift : Panel → ℕ → Board → World → Board
after_lift j count b place = unless_refused (refusal (lift_checks j count b place)) (lifted (shape_of j) j.tiles b (entry_in j place)) b

abbrev pub fresh_checks : ℕ → ℕ → ℕ → Board → Checks
fresh_checks rows cols tiles b = board_lengths rows cols b then LENGTH unless tile_number_fits tiles

-- the ported steps of their own: weights up and down, and the recount
abbrev pub weight_plane_checks : List ℕ → ℕ → ℕ → Checks
weight_plane_checks weights rows cols =
    SHAPE unless board_sides rows cols
    then LENGTH unless has_length weights (rows * cols)
    then CELL unless none_above weights max_weight

abbrev pub weight_checks : List ℕ → ℕ → ℕ → World → Offset → Checks
weight_checks weights rows cols place offset = weight_plane_checks weights rows cols then place_checks rows cols place offset

abbrev pub counted_contents : List ℕ → ℕ → List ℕ → List ℕ → ℕ → Checks
counted_contents tiles count pieces counts n = contents_checks tiles count pieces then CELL unless none_above counts n

abbrev pub counted_planes : List ℕ → List ℕ → ℕ → ℕ → List ℕ → ℕ → Checks
counted_planes counts pieces rows cols tiles count =
    SHAPE unless board_sides rows cols
    then LENGTH unless has_length counts (rows * cols)
    then LENGTH unless has_length pieces (rows * cols)
    then LENGTH unless whole_tiles tiles
    then counted_contents tiles count pieces counts (tiles_in tiles)

abbrev pub recount_checks : List ℕ → List ℕ → ℕ → ℕ → List ℕ → ℕ → World → Offset → Checks
recount_checks counts pieces rows cols tiles count place offset = counted_planes counts pieces rows cols tiles count then place_checks rows cols place offset
