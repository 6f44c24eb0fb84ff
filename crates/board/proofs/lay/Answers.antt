-- `board::lay` meets its contract: refused by its lengths, its tiles, its contents, its place or at last, or done. Assumes nothing.
use mathlib.Core.Path.{◌≡◌, refl, ◌∙◌, ap}
use Rattle.base.specs.Refusal.{refusal}
use Rattle.base.proofs.Chain.{go}
use Rattle.rules.specs.Answers.{checked}
use Rattle.rules.specs.Grid.{entry_of, flat}
use Rattle.rules.specs.Board.{laid, board_checks, laying_checks, after_lay}
use Rattle.rules.specs.Promises.{board, panel}
use Rattle.rules.specs.declared.Cell.{Cell}
use Rattle.rules.proofs.Answered.{handed_to, caught, stopped, went-on, passed, refused, done}
use Rattle.check_sizes.proofs.Tiled.{few-tiles}
use Rattle.board_near.proofs.Placing.{place-stops, place-passes}
use Rattle.board_near.proofs.Leaning.{in-plane}
use Rattle.board_moves.specs.Movable.{Movable}
use Rattle.board.proofs.Leaning.{no-tiles, bad-contents, planes-passed, movable, colour-low}
use Rattle.board.proofs.lay.Goals.{In_ok-check_cells, After-cell_of-cell}
use Rattle.board.proofs.lay.Goals as goal

pub returns-in_err-check_lengths : goal.returns-in_err-check_lengths
unfolding after_lay
returns-in_err-check_lengths c =
    rw (handed_to c.from_residual.ensures refl)
    (refused _ _ _ _ (stopped _ _ (stopped _ _ (caught _ _ c.check_lengths.ensures c.in_err-check_lengths.was))))

pub returns-in_default : goal.returns-in_default
unfolding after_lay
returns-in_default c =
    refused _ _ _ _
    (stopped _ _
    (no-tiles _ _ _ _ _ _ _ c.args.offset (passed _ _ c.check_lengths.ensures c.in_ok-check_lengths.was) c.tile_number.ensures c.in_default.is))

pub check_cells-requires : goal.check_cells-requires
check_cells-requires c = few-tiles _ _ c.tile_number.ensures _ c.in-Ok.is

pub returns-in_err-check_cells : goal.returns-in_err-check_cells
unfolding after_lay
returns-in_err-check_cells c =
    rw (handed_to c.from_residual-in_err-check_cells.ensures refl)
    (refused _ _ _ _
    (stopped _ _
    (bad-contents _ _ _ _ _ _ _ c.args.offset (passed _ _ c.check_lengths.ensures c.in_ok-check_lengths.was) c.tile_number.ensures c.in-Ok.is
    (caught _ _ c.check_cells.ensures c.in_err-check_cells.was))))

-- the checks of the planes have passed
made : (c : In_ok-check_cells)
    → let a = c.args in
    0 ≡ refusal (board_checks (panel a.rows a.cols a.tiles.now a.offset) a.count (board a.pieces.now a.weights.now a.counts.now))
made c =
    planes-passed _ _ _ _ _ _ _ c.args.offset (passed _ _ c.check_lengths.ensures c.in_ok-check_lengths.was) c.tile_number.ensures c.in-Ok.is
    (passed _ _ c.check_cells.ensures c.in_ok-check_cells.was)

pub returns-in_default-near_spans : goal.returns-in_default-near_spans
unfolding after_lay
returns-in_default-near_spans c =
    refused _ _ _ _
    (went-on _ _ (made (goal.at.returns-in_default-near_spans c).In_ok-check_cells)
    (stopped _ _ (place-stops _ _ _ _ c.in_default-near_spans.is c.near_spans.ensures)))

-- so the board may be changed round the place
moves : (c : After-cell_of-cell)
    → let a = c.args in
    0 ≡ refusal (board_checks (panel a.rows a.cols a.tiles.now a.offset) a.count (board a.pieces.now a.weights.now a.counts.now))
    → Movable (board a.pieces.now a.weights.now a.counts.now) a.rows a.cols a.tiles.now c.cell_of-cell.result c.in-Ok-near_spans.spans
moves c e = movable _ _ _ _ _ _ _ _ e _ c.in-Ok-near_spans.is c.near_spans.ensures _ c.cell_of-cell.ensures

pub check_laying-requires : goal.check_laying-requires
check_laying-requires c = in-plane _ _ _ _ (moves c (made (goal.at.check_laying-requires c).In_ok-check_cells)).pieces

pub returns-in_err-check_laying : goal.returns-in_err-check_laying
unfolding after_lay
returns-in_err-check_laying c =
    let a = c.args in
    rw (handed_to c.from_residual-in_err-check_laying.ensures refl)
    (refused _ _ _ _
    (went-on _ _ (made (goal.at.returns-in_err-check_laying c).In_ok-check_cells)
    (went-on _ _ (place-passes _ _ _ _ c.in-Ok-near_spans.is c.near_spans.ensures)
    (caught _ _
    (c.check_laying.ensures ∙ ap (λ (x : Cell). checked (laying_checks a.pieces.now (entry_of a.cols x) a.count a.colour)) c.cell_of-cell.ensures)
    c.in_err-check_laying.was))))

pub lay_at-requires : goal.lay_at-requires
lay_at-requires c = (
  moves (goal.at.lay_at-requires c).After-cell_of-cell (made (goal.at.lay_at-requires c).In_ok-check_cells),
  colour-low _ _ _ _ _ _ _ c.args.offset (made (goal.at.lay_at-requires c).In_ok-check_cells) _ _ (passed _ _ c.check_laying.ensures c.in_ok-check_laying.was),
)

pub returns : goal.returns
unfolding after_lay
returns c =
    let a = c.args in
    done _ _ _ _
    (go _ _ _ (made (goal.at.returns c).In_ok-check_cells)
    (go _ _ _ (place-passes _ _ _ _ c.in-Ok-near_spans.is c.near_spans.ensures)
    (passed _ _
    (c.check_laying.ensures ∙ ap (λ (x : Cell). checked (laying_checks a.pieces.now (entry_of a.cols x) a.count a.colour)) c.cell_of-cell.ensures)
    c.in_ok-check_laying.was)))
    refl
    (c.lay_at.ensures
    ∙ ap (λ (x : Cell). laid (flat a.rows a.cols) a.tiles.now (board a.pieces.now a.weights.now a.counts.now) (entry_of a.cols x) a.colour) c.cell_of-cell.ensures)
