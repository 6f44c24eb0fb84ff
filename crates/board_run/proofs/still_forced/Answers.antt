-- `board_run::still_forced` meets its contract: a cell whose only colour is 0 is laid, or lists none or more than one.
-- Assumes nothing.
use mathlib.Core.Path.{◌∙◌, ap}
use mathlib.Core.Bool.{Bool, not}
use borrow.Author.Tests.{eq-eqb}
use Rattle.board_run.proofs.Leaning.{cell-on}
use Rattle.board_run.proofs.Showing.{none_left, one_left}
use Rattle.board_run.proofs.still_forced.Goals as goal

pub only_colour_at-colour-requires-clause-cell_on : goal.only_colour_at-colour-requires-clause-cell_on
only_colour_at-colour-requires-clause-cell_on c = cell-on _ _ _ _ c.requires.1 _ c.cell_of-cell.ensures

pub returns-then-colour-ne0 : goal.returns-then-colour-ne0
returns-then-colour-ne0 c =
    λ weights counts. one_left _ _ _ _ _ c.cell_of-cell.ensures _ c.only_colour_at-colour.ensures c.if-colour-ne0.true

pub returns-else-colour-ne0 : goal.returns-else-colour-ne0
returns-else-colour-ne0 c =
    λ weights counts.
    ap (λ (t : Bool). not t) (eq-eqb _ 0 c.if-colour-ne0.false)
    ∙ none_left _ _ _ _ _ c.cell_of-cell.ensures _ c.only_colour_at-colour.ensures c.if-colour-ne0.false
