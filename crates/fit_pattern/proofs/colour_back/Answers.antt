-- `fit_pattern::colour_back` meets its contract: above and left of the grid the cell is bare, else it is the one two up and two left. Assumes nothing.
use mathlib.Core.Path.{sym, ◌∙◌, ap}
use Rattle.rules.specs.Grid.{cell_at, colour_on}
use Rattle.fit_pattern.proofs.Windows.{bare-past}
use Rattle.fit_pattern.proofs.Patch.{back_on, back_above, back-left}
use Rattle.fit_pattern.proofs.colour_back.Goals as goal

pub returns-then-r-lt-REACH : goal.returns-then-r-lt-REACH
returns-then-r-lt-REACH c = bare-past c.before.before.args.pieces.now _ _ c.before.before.requires.plane (back_above _ _ _ c.if-r-lt-REACH.true)

pub returns-then-c-lt-REACH : goal.returns-then-c-lt-REACH
returns-then-c-lt-REACH c = bare-past c.before.before.before.args.pieces.now _ _ c.before.before.before.requires.plane (back-left _ _ _ c.if-c-lt-REACH.true)

pub returns : goal.returns
returns c =
    let a = c.before.before.before.before.args in
    c.colour_at.ensures
    ∙ ap (colour_on a.pieces.now) (sym (back_on a.rows a.cols (cell_at a.r a.c) c.before.before.if-r-lt-REACH.false c.before.if-c-lt-REACH.false))
