-- `fit_windows::viable_colours` meets its contract. The loop's invariant: left are the colours that the windows passed allow. Assumes nothing.
use mathlib.Core.Path.{◌≡◌}
use Rattle.rules.specs.Grid.{cell_at, entry_of, flat}
use Rattle.rules.specs.Sets.{bits_of}
use Rattle.rules.specs.Fit.{left_after}
use Rattle.fit_windows.proofs.viable_colours.Given as goal

abbrev pub invariant-loop-q : goal.invariant-loop-q
invariant-loop-q l =
    l.left ≡ bits_of l.count (left_after (flat l.rows l.cols) l.tiles l.pieces (entry_of l.cols (cell_at l.row l.col)) l.q-index)
