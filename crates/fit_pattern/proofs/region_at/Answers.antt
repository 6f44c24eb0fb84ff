-- `fit_pattern::region_at` meets its contract: the place at row i / 3 and column i % 3 of what starts at the cell. Assumes nothing.
use mathlib.Core.Path.{◌≡◌, ◌∙◌}
use borrow.Author.Rules.{rules}
use Rattle.rules.specs.Grid.{cell_at, entry_of, entry_or_past, flat, colour_on}
use Rattle.rules.specs.Fit.{pattern}
use Rattle.fit_pattern.proofs.Flat.{place_from, pattern-is}
use Rattle.fit_pattern.proofs.region_at.Goals as goal

pub returns : goal.returns
returns c =
    let a = c.args in
    c.colours_of.ensures (pattern (flat a.rows a.cols) a.pieces.now (entry_of a.cols (cell_at a.row a.col)))
    (λ i r l e.
    let read : r ≡ colour_on a.pieces.now (entry_or_past a.rows a.cols (place_from (cell_at a.row a.col) i)) = search rules in
    read ∙ pattern-is a.rows a.cols (cell_at a.row a.col) i c.requires.cell_on.colwise a.pieces.now)
