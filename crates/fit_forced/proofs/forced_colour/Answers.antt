-- `fit_forced::forced_colour` meets its contract: what each test leaves of the definition. Assumes nothing.
use mathlib.Core.Path.{sym, ◌∙◌}
use Rattle.places.proofs.Indices.{row_below, col-below}
use Rattle.fit_forced.proofs.Alone.{not-admitted, off-board, on-board}
use Rattle.fit_forced.proofs.forced_colour.Goals as goal

pub returns-then-not-admitted : goal.returns-then-not-admitted
returns-then-not-admitted c = not-admitted _ _ _ _ _ _ _ _ _ (sym c.admitted.ensures ∙ c.if-not-admitted.true)

pub returns-then-not-on_board : goal.returns-then-not-on_board
returns-then-not-on_board c = off-board _ _ _ _ _ _ _ _ _ (sym c.on_board.ensures ∙ c.if-not-on_board.true)

pub only_colour_at-requires-clause-cell_on : goal.only_colour_at-requires-clause-cell_on
only_colour_at-requires-clause-cell_on c =
    let h = sym c.on_board.ensures ∙ c.if-not-on_board.false in
    let e = c.cell_of-cell.ensures in
    record { rowwise = rw e (row_below _ _ _ _ h); colwise = rw e (col-below _ _ _ _ h) }

pub returns : goal.returns
returns c =
    let p = sym c.admitted.ensures ∙ c.if-not-admitted.false in
    let q = sym c.on_board.ensures ∙ c.if-not-on_board.false in
    c.only_colour_at.ensures ∙ on-board _ _ _ _ _ _ _ _ _ _ p q c.cell_of-cell.ensures
