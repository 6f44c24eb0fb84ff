-- What lay and lift by the rule alone lean on: the checks that their callers have made.
use Rattle.std.specs.Prelude.{ℕ, List}
use Rattle.rules.specs.Board.{Board}
use Rattle.rules.specs.declared.Cell.{Cell}
use Rattle.rules.specs.declared.Spans.{Spans}
use Rattle.fit_windows.specs.Ready.{Countable}
use Rattle.board_near.specs.Near.{OnPlane, Nearby}
use Rattle.board_weights.specs.Shares.{Light}

-- a board whose planes were checked, and the spans of radius 2 round a cell of it
pub record Movable (b : Board) (rows cols : ℕ) (tiles : List ℕ) (cell : Cell) (spans : Spans) : Type 0 where
  pub pieces : OnPlane b.pieces rows cols cell
  pub weights : OnPlane b.weights rows cols cell
  pub counts : OnPlane b.counts rows cols cell
  pub near : Nearby rows cols cell spans
  pub ready : Countable b.pieces rows cols tiles
  pub light : Light b.weights
