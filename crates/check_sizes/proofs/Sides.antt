-- What the tests of sides, lengths and counts give where they hold: bounds, for callers that lean on them.
-- Assumes nothing.
use Prim.Native.Nat.{ℕ, ◌+◌, ◌*◌, ◌%◌, ◌<◌, ◌≤◌}
use mathlib.Core.Path.{◌≡◌}
use mathlib.Core.Bool.{true}
use mathlib.Core.List.{List}
use native.Mathlib.Omega.{arith}
use lib.Dec.{eqb}
use lib.ListN.{length, get_or}
use borrow.Author.Tests.{leb-true, eqb-true}
use Rattle.base.specs.Counting.{within}
use Rattle.base.proofs.Bools.{and_left, and_right}
use Rattle.base.proofs.Numbers.{within_low, within-high, mul-le}
use Rattle.base.proofs.Counted.{every-at}
use Rattle.rules.specs.Tests.{board_sides, has_length, tiles_in, tile_number_fits, whole_tiles, colour_count, none_above, pieces_stored, entry_up_to, piece_stored}

-- the sides of a board are 1 to 64
pub board-rows : (rows cols : ℕ) → board_sides rows cols ≡ true → (1 ≤ rows) × (rows ≤ 64)
unfolding board_sides
board-rows rows cols e = let h = and_left (within 1 64 rows) (within 1 64 cols) e in (within_low 1 64 rows h, within-high 1 64 rows h)

pub board-cols : (rows cols : ℕ) → board_sides rows cols ≡ true → (1 ≤ cols) × (cols ≤ 64)
unfolding board_sides
board-cols rows cols e = let h = and_right (within 1 64 rows) (within 1 64 cols) e in (within_low 1 64 cols h, within-high 1 64 cols h)

-- a board has at most 4,096 cells
pub few-cells : (rows cols : ℕ) → board_sides rows cols ≡ true → rows * cols ≤ 4096
few-cells rows cols e = mul-le (board-rows rows cols e).1 (board-cols rows cols e).1

pub long : {A : Type 0} (plane : List A) (n : ℕ) → has_length plane n ≡ true → length plane ≡ n
unfolding has_length
long plane n e = eqb-true (length plane) n e

-- a number of tiles is 1 to 7,200
pub tiles-least : (n : ℕ) → tile_number_fits n ≡ true → 1 ≤ n
unfolding tile_number_fits
tiles-least n e = within_low 1 7200 n e

pub tiles-most : (n : ℕ) → tile_number_fits n ≡ true → n ≤ 7200
unfolding tile_number_fits
tiles-most n e = within-high 1 7200 n e

-- a tile list is whole tiles
pub whole-number : (tiles : List ℕ) → whole_tiles tiles ≡ true → tile_number_fits (tiles_in tiles) ≡ true
unfolding whole_tiles
whole-number tiles e = and_right (eqb (length tiles % 9) 0) (tile_number_fits (tiles_in tiles)) e

pub whole_length : (tiles : List ℕ) → whole_tiles tiles ≡ true → tiles_in tiles * 9 ≡ length tiles
unfolding whole_tiles
whole_length tiles e = let z : length tiles % 9 ≡ 0 = eqb-true (length tiles % 9) 0 (and_left (eqb (length tiles % 9) 0) (tile_number_fits (tiles_in tiles)) e) in omega arith

-- a colour count is 1 to 30
pub count-least : (count : ℕ) → colour_count count ≡ true → 1 ≤ count
unfolding colour_count
count-least count e = within_low 1 30 count e

pub count_most : (count : ℕ) → colour_count count ≡ true → count ≤ 30
unfolding colour_count
count_most count e = within-high 1 30 count e

-- no cell above most; each piece a stored one
pub none_above-entry : (plane : List ℕ) (most : ℕ) → none_above plane most ≡ true → (k : ℕ) → k < length plane → get_or plane k 0 ≤ most
unfolding none_above
none_above-entry plane most e k h = leb-true (get_or plane k 0) most (every-at (entry_up_to plane most) (length plane) e k h)

pub stored-least : (pieces : List ℕ) (count : ℕ) → pieces_stored pieces count ≡ true → (k : ℕ) → k < length pieces → 1 ≤ get_or pieces k 0
unfolding pieces_stored
stored-least pieces count e k h = within_low 1 (count + 1) (get_or pieces k 0) (every-at (piece_stored pieces count) (length pieces) e k h)

pub stored-most : (pieces : List ℕ) (count : ℕ) → pieces_stored pieces count ≡ true → (k : ℕ) → k < length pieces → get_or pieces k 0 ≤ count + 1
unfolding pieces_stored
stored-most pieces count e k h = within-high 1 (count + 1) (get_or pieces k 0) (every-at (piece_stored pieces count) (length pieces) e k h)
