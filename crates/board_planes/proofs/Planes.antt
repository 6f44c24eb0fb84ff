-- The checks of three planes in the words of a function that has asked for a number first: laws for `search`, beside `chain`.
--     planes-as      the lengths, by the number of cells
--     contents-by    the contents, by the number of tiles that `tile_number` answers
-- Assumes nothing.
use Prim.Native.Nat.{ℕ}
use mathlib.Core.Path.{◌≡◌, ◌∙◌, ap}
use mathlib.Core.List.{List}
use Rattle.std.specs.Prelude.{Ok}
use Rattle.rules.specs.Tests.{tiles_in}
use Rattle.rules.specs.Tiles.{tiles_counted}
use Rattle.rules.specs.Board.{Board, plane_lengths, board_contents}
use Rattle.rules.specs.Promises.{board}
use Rattle.check_sizes.proofs.Tiled.{so-many}
use Rattle.rules.specs.Answers.{Answer, checked}

pub planes-as : {x : Answer Unit} (pieces weights counts : List ℕ) (m n : ℕ) → x ≡ checked (plane_lengths m (board pieces weights counts)) → m ≡ n
    → x ≡ checked (plane_lengths n (board pieces weights counts))
planes-as pieces weights counts m n e q = e ∙ ap (λ (k : ℕ). checked (plane_lengths k (board pieces weights counts))) q

pub contents-by : (tiles : List ℕ) (count : ℕ) (b : Board) {a : Answer ℕ} (x : ℕ) → a ≡ Ok x → a ≡ tiles_counted tiles
    → {y : Answer Unit} → y ≡ checked (board_contents tiles count b x) → y ≡ checked (board_contents tiles count b (tiles_in tiles))
contents-by tiles count b {a} x t e p = p ∙ ap (λ (n : ℕ). checked (board_contents tiles count b n)) (so-many tiles a e x t)
