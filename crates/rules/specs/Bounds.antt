-- Document 01, "Bounds" and "Refusal numbers": its numbers, by name and in one place.
use Rattle.std.specs.Prelude.{ℕ, ℤ, pos, neg_ℤ}

abbrev pub max_colours : ℕ
max_colours = 30

abbrev pub max_sample_side : ℕ
max_sample_side = 32

abbrev pub max_board_side : ℕ
max_board_side = 64

-- 64 rows of 64 columns
abbrev pub max_cells : ℕ
max_cells = 4096

abbrev pub max_tiles : ℕ
max_tiles = 7200

-- tile size 3 only, so nine bytes each
abbrev pub tile_cells : ℕ
tile_cells = 9

abbrev pub max_radius : ℕ
max_radius = 63

abbrev pub max_influence_side : ℕ
max_influence_side = 127

abbrev pub max_weight : ℕ
max_weight = 4000000000

abbrev pub queue_room : ℕ
queue_room = 64

abbrev pub added_room : ℕ
added_room = 8

-- document 02, request 2: the entries that a forced run may take
abbrev pub max_budget : ℕ
max_budget = 4096

abbrev pub min_coordinate : ℤ
min_coordinate = neg_ℤ (pos 1000000)

abbrev pub max_coordinate : ℤ
max_coordinate = pos 1000000

abbrev pub min_offset : ℤ
min_offset = neg_ℤ (pos 999937)

abbrev pub max_offset : ℤ
max_offset = pos 1000000

-- what a bare board cell stores; colour t stores t + 1
abbrev pub bare : ℕ
bare = 1

abbrev pub SHAPE : ℕ
SHAPE = 1

abbrev pub LENGTH : ℕ
LENGTH = 2

abbrev pub COUNT : ℕ
COUNT = 3

abbrev pub CELL : ℕ
CELL = 4

abbrev pub NUMBER : ℕ
NUMBER = 5

abbrev pub PLACE : ℕ
PLACE = 6

abbrev pub TYPE : ℕ
TYPE = 7

abbrev pub TAKEN : ℕ
TAKEN = 8

abbrev pub BARE : ℕ
BARE = 9

abbrev pub ROOM : ℕ
ROOM = 10
