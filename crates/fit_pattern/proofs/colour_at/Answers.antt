-- `fit_pattern::colour_at` meets its contract: past the grid the cell is bare, on it the piece is read at its entry, less 1. Assumes nothing.
use mathlib.Core.Path.{sym, ap}
use native.Mathlib.Omega.{arith}
use Rattle.rules.specs.Grid.{cell_at, colour_on}
use Rattle.fit_pattern.proofs.Flat.{on-grid, off-rows, off-cols}
use Rattle.fit_pattern.proofs.Windows.{Inside, inside, bare-past}
use Rattle.fit_pattern.proofs.colour_at.Goals.{Else-c-cols}
use Rattle.fit_pattern.proofs.colour_at.Goals as goal

-- past both tests the cell is on the grid
there : (c : Else-c-cols) → Inside c.args.pieces.now c.args.cols (cell_at c.args.r c.args.c)
there c = inside c.requires (record { rowwise = c.if-r-rows.false; colwise = c.if-c-cols.false })

pub returns-then-r-rows : goal.returns-then-r-rows
returns-then-r-rows c = bare-past c.args.pieces.now _ _ c.requires.plane (off-rows _ _ _ c.if-r-rows.true)

pub returns-then-c-cols : goal.returns-then-c-cols
returns-then-c-cols c = bare-past c.args.pieces.now _ _ c.requires.plane (off-cols _ _ _ c.if-c-cols.true)

pub overflow_mul-result : goal.overflow_mul-result
overflow_mul-result c = let k = there c in record { fits = omega arith }

pub overflow_add-result : goal.overflow_add-result
overflow_add-result c = let k = there c in record { fits = omega arith }

pub offset_bounds-pieces-r : goal.offset_bounds-pieces-r
offset_bounds-pieces-r c = let k = there c in record { fits = omega arith }

pub bounds-pieces-r : goal.bounds-pieces-r
bounds-pieces-r c = (there (goal.at.bounds-pieces-r c).Else-c-cols).below

pub overflow_sub-result : goal.overflow_sub-result
overflow_sub-result c = c.requires.least _ (there (goal.at.overflow_sub-result c).Else-c-cols).below

pub overflow_cast-result : goal.overflow_cast-result
overflow_cast-result c = record { fits = omega (arith, c.requires.most _ (there (goal.at.overflow_cast-result c).Else-c-cols).below) }

pub returns : goal.returns
returns c =
    let a = c.args in
    ap (colour_on a.pieces.now) (sym (on-grid a.rows a.cols (cell_at a.r a.c) c.if-r-rows.false c.if-c-cols.false))
