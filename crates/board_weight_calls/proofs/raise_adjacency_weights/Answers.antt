-- `board_weight_calls::raise_adjacency_weights` meets its contract: refused, or done. Assumes nothing.
use mathlib.Core.Path.{refl, ◌∙◌, ap}
use Rattle.rules.specs.Grid.{flat, entry_of}
use Rattle.rules.specs.Board.{raised}
use Rattle.rules.specs.declared.Cell.{Cell}
use Rattle.rules.proofs.Answered.{handed_to, refused, done}
use Rattle.board_weight_calls.proofs.Leaning.{weighed}
use Rattle.board_weight_calls.proofs.raise_adjacency_weights.Goals as goal

pub returns-in_err-spans : goal.returns-in_err-spans
returns-in_err-spans c = rw (handed_to c.from_residual.ensures refl) (refused _ _ _ _ c.in_err-spans.ensures)

pub raise_near-requires : goal.raise_near-requires
raise_near-requires c = let v = weighed _ _ _ _ _ c.in_ok-spans.ensures.0 in rw c.cell_of.ensures (v.on, c.in_ok-spans.ensures.1, v.light)

pub returns : goal.returns
returns c =
    let a = c.args in
    done _ _ _ _ c.in_ok-spans.ensures.0 refl
    (c.raise_near.ensures ∙ ap (λ (x : Cell). raised (flat a.rows a.cols) (entry_of a.cols x) a.weights.now) c.cell_of.ensures)
