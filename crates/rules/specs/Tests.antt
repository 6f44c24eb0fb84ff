-- Document 01, "Refusal numbers": the tests that the calls have in common. Each is true where the input is in order.
use Rattle.std.specs.Prelude.{ℕ, ◌+◌, ◌/◌, ◌%◌, Bool, ◌&&◌, List, leb, eqb, length, get_or, ℤ, ◌+ℤ◌}
use Rattle.base.specs.Counting.{every, within}
use Rattle.base.specs.Whole.{within_z, index_below}
use Rattle.rules.specs.Bounds.{max_colours, max_sample_side, max_board_side, max_tiles, tile_cells, bare, min_coordinate, max_coordinate, min_offset, max_offset}
use Rattle.rules.specs.declared.World.{World}
use Rattle.rules.specs.declared.Offset.{Offset}

-- SHAPE: the sides of a board, and of a sample
unfoldable pub board_sides : ℕ → ℕ → Bool
board_sides rows cols = within 1 max_board_side rows && within 1 max_board_side cols

unfoldable pub sample_sides : ℕ → ℕ → Bool
sample_sides rows cols = within 1 max_sample_side rows && within 1 max_sample_side cols

-- LENGTH: a lent plane has exactly its length; a tile list is whole tiles, 1..=7,200 of them; so is a number of tiles given without a list
unfoldable pub has_length : {A : Type 0} → List A → ℕ → Bool
has_length plane n = eqb (length plane) n

abbrev pub tiles_in : List ℕ → ℕ
tiles_in tiles = length tiles / tile_cells

unfoldable pub tile_number_fits : ℕ → Bool
tile_number_fits n = within 1 max_tiles n

unfoldable pub whole_tiles : List ℕ → Bool
whole_tiles tiles = eqb (length tiles % tile_cells) 0 && tile_number_fits (tiles_in tiles)

-- COUNT
unfoldable pub colour_count : ℕ → Bool
colour_count count = within 1 max_colours count

-- CELL: no entry above most (sample and tile cells, weights, fit counts); each stored piece a bare cell or a colour of the count
abbrev pub entry_up_to : List ℕ → ℕ → ℕ → Bool
entry_up_to plane most k = leb (get_or plane k 0) most

unfoldable pub none_above : List ℕ → ℕ → Bool
none_above plane most = every (length plane) (entry_up_to plane most)

abbrev pub piece_stored : List ℕ → ℕ → ℕ → Bool
piece_stored pieces count k = within bare (count + 1) (get_or pieces k 0)

unfoldable pub pieces_stored : List ℕ → ℕ → Bool
pieces_stored pieces count = every (length pieces) (piece_stored pieces count)

-- Index = coordinate + offset: that of the row, and that of the column
abbrev pub row_index : World → Offset → ℤ
row_index place offset = place.0 +ℤ offset.0

abbrev pub col_index : World → Offset → ℤ
col_index place offset = place.1 +ℤ offset.1

-- PLACE: a coordinate or a box corner, an offset; and that the cell lies on the board
unfoldable pub on_wall : World → Bool
on_wall place = within_z min_coordinate max_coordinate place.0 && within_z min_coordinate max_coordinate place.1

unfoldable pub offset_fits : Offset → Bool
offset_fits offset = within_z min_offset max_offset offset.0 && within_z min_offset max_offset offset.1

unfoldable pub on_board : ℕ → ℕ → World → Offset → Bool
on_board rows cols place offset = index_below rows (row_index place offset) && index_below cols (col_index place offset)
