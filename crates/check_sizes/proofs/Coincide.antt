-- Two results that meet the contract of a test coincide.
-- Assumes nothing.
use Prim.Native.Nat.{ℕ}
use mathlib.Core.Path.{◌≡◌}
use mathlib.Core.Bool.{Bool}
use mathlib.Core.List.{List}
use Rattle.base.proofs.Chain.{coincide}
use Rattle.rules.specs.Tests.{board_sides, sample_sides, has_length, tile_number_fits, whole_tiles, colour_count}
use Rattle.rules.specs.Tiles.{tiles_counted}
use Rattle.rules.specs.Answers.{Answer}

pub board-sides : (rows cols : ℕ) {r s : Bool} → r ≡ board_sides rows cols → s ≡ board_sides rows cols → r ≡ s
board-sides rows cols p q = coincide p q

pub sample-sides : (rows cols : ℕ) {r s : Bool} → r ≡ sample_sides rows cols → s ≡ sample_sides rows cols → r ≡ s
sample-sides rows cols p q = coincide p q

-- of the three tests of a plane's length, which differ in what the plane holds
pub have-length : {A : Type 0} (plane : List A) (n : ℕ) {r s : Bool} → r ≡ has_length plane n → s ≡ has_length plane n → r ≡ s
have-length plane n p q = coincide p q

pub tile-number-fits : (n : ℕ) {r s : Bool} → r ≡ tile_number_fits n → s ≡ tile_number_fits n → r ≡ s
tile-number-fits n p q = coincide p q

pub whole-tiles : (tiles : List ℕ) {r s : Bool} → r ≡ whole_tiles tiles → s ≡ whole_tiles tiles → r ≡ s
whole-tiles tiles p q = coincide p q

pub tile-number : (tiles : List ℕ) {r s : Answer ℕ} → r ≡ tiles_counted tiles → s ≡ tiles_counted tiles → r ≡ s
tile-number tiles p q = coincide p q

pub colour-count : (count : ℕ) {r s : Bool} → r ≡ colour_count count → s ≡ colour_count count → r ≡ s
colour-count count p q = coincide p q
