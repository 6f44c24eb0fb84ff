-- `board_near::near_spans` meets its contract, by its three ways out. Assumes nothing.
use mathlib.Core.Path.{sym, ◌∙◌}
use Rattle.rules.proofs.Answered.{handed_to}
use Rattle.board_near.proofs.Placing.{no-spans, no-board, some-spans}
use Rattle.board_near.proofs.near_spans.Goals as goal

pub returns-in_err-spans : goal.returns-in_err-spans
returns-in_err-spans c = handed_to c.from_residual.ensures (no-spans _ _ _ _ c.in_err-spans.was c.get_region_spans.ensures)

pub returns-then-not-on_board : goal.returns-then-not-on_board
returns-then-not-on_board c = no-board _ _ _ _ (sym c.on_board.ensures ∙ c.if-not-on_board.true)

pub returns : goal.returns
returns c =
    rw (c.clipped.ensures, c.clipped-2.ensures)
    (some-spans _ _ _ _ c.in_ok-spans.was c.get_region_spans.ensures
    (sym c.on_board.ensures ∙ c.if-not-on_board.false))
