-- `board_run::lay_entry` meets its contract. There are spans round a place on the board, so the branch without them is never taken.
-- Assumes nothing.
use mathlib.Core.Path.{◌∙◌, ap}
use Rattle.rules.specs.Grid.{entry_of, flat}
use Rattle.rules.specs.Board.{laid}
use Rattle.rules.specs.Promises.{board}
use Rattle.rules.specs.declared.Cell.{Cell}
use Rattle.board_run.proofs.Leaning.{movable, spans-there}
use Rattle.board_run.proofs.lay_entry.Goals as goal

pub returns-in_default : goal.returns-in_default
returns-in_default c = spans-there _ _ _ c.requires c.in_default.is c.near_spans.ensures

pub lay_at-requires : goal.lay_at-requires
lay_at-requires c =
    let p = c.requires in
    (movable _ _ _ p c.in-Ok.is c.near_spans.ensures _ c.cell_of-cell.ensures, p.low)

pub returns : goal.returns
returns c =
    let a = c.args in
    c.lay_at.ensures
    ∙ ap (λ (x : Cell). laid (flat a.rows a.cols) a.tiles.now (board a.pieces.now a.weights.now a.counts.now) (entry_of a.cols x) a.entry.colour)
    c.cell_of-cell.ensures
