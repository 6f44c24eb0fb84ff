-- What the parts of a widening's checks give where they pass; and the test of an offset that a function worked out, for `search` beside
-- `chain`.
--     pads-low          pads that make board sides are small
--     planes-passed     the lengths of three planes, by a number of cells that a function worked out
--     contents-passed   the contents, by the number of tiles that `tile_number` told
-- Assumes nothing.
use Prim.Native.Nat.{ℕ, ◌≤◌}
use mathlib.Core.Path.{◌≡◌, ◌∙◌, ap}
use mathlib.Core.Bool.{Bool, true}
use mathlib.Core.List.{List}
use native.Mathlib.Omega.{arith}
use Rattle.std.specs.Prelude.{Ok}
use Rattle.base.specs.Refusal.{refusal}
use Rattle.rules.specs.Answers.{Answer, checked}
use Rattle.rules.specs.Bounds.{max_board_side}
use Rattle.rules.specs.Tests.{board_sides, tiles_in, offset_fits}
use Rattle.rules.specs.Tiles.{tiles_counted}
use Rattle.rules.specs.Places.{new_rows, new_cols}
use Rattle.rules.specs.Board.{Board, plane_lengths, board_contents}
use Rattle.rules.specs.Promises.{board}
use Rattle.rules.specs.declared.Offset.{Offset}
use Rattle.rules.specs.declared.Pads.{Pads}
use Rattle.rules.proofs.Answered.{passed}
use Rattle.check_sizes.proofs.Sides.{board-rows, board-cols}
use Rattle.board_planes.proofs.Planes.{planes-as, contents-by}

pub pads-low : (rows cols : ℕ) (p : Pads) → board_sides (new_rows rows p) (new_cols cols p) ≡ true
    → (p.left ≤ max_board_side) × (p.top ≤ max_board_side)
pads-low rows cols p e =
    (omega (arith, board-rows (new_rows rows p) (new_cols cols p) e), omega (arith, board-cols (new_rows rows p) (new_cols cols p) e))

pub offset-as : {r : Bool} (x y : Offset) → r ≡ offset_fits x → x ≡ y → r ≡ offset_fits y
offset-as x y e q = e ∙ ap offset_fits q

pub planes-passed : (pieces weights counts : List ℕ) (m n : ℕ) {x : Answer Unit} → x ≡ checked (plane_lengths m (board pieces weights counts)) → m ≡ n
    → x ≡ Ok tt → 0 ≡ refusal (plane_lengths n (board pieces weights counts))
planes-passed pieces weights counts m n e q was =
    passed (plane_lengths n (board pieces weights counts)) tt (planes-as pieces weights counts m n e q) was

pub contents-passed : (tiles : List ℕ) (count : ℕ) (b : Board) (n : ℕ) {a : Answer ℕ} {x : Answer Unit} → a ≡ Ok n → a ≡ tiles_counted tiles
    → x ≡ checked (board_contents tiles count b n) → x ≡ Ok tt → 0 ≡ refusal (board_contents tiles count b (tiles_in tiles))
contents-passed tiles count b n t e q was =
    passed (board_contents tiles count b (tiles_in tiles)) tt (contents-by tiles count b n t e q) was
