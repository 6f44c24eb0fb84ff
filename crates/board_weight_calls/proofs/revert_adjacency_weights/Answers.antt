-- `board_weight_calls::revert_adjacency_weights` meets its contract: refused, or done. Assumes nothing.
use mathlib.Core.Path.{refl, ◌∙◌, ap}
use Rattle.rules.specs.Grid.{flat, entry_of}
use Rattle.rules.specs.Board.{lowered}
use Rattle.rules.specs.declared.Cell.{Cell}
use Rattle.rules.proofs.Answered.{handed_to, refused, done}
use Rattle.board_weight_calls.proofs.Leaning.{weighed}
use Rattle.board_weight_calls.proofs.revert_adjacency_weights.Goals as goal

pub returns-in_err-spans : goal.returns-in_err-spans
returns-in_err-spans c = rw (handed_to c.from_residual.ensures refl) (refused _ _ _ _ c.in_err-spans.ensures)

pub lower_near-requires : goal.lower_near-requires
lower_near-requires c = let v = weighed _ _ _ _ _ c.in_ok-spans.ensures.0 in rw c.cell_of.ensures (v.on, c.in_ok-spans.ensures.1)

pub returns : goal.returns
returns c =
    let a = c.args in
    done _ _ _ _ c.in_ok-spans.ensures.0 refl
    (c.lower_near.ensures ∙ ap (λ (x : Cell). lowered (flat a.rows a.cols) (entry_of a.cols x) a.weights.now) c.cell_of.ensures)
