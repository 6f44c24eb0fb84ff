-- `fit_windows::fit_count` meets its contract. The loop's invariant: the count is that of the tiles passed. Assumes nothing.
use mathlib.Core.Path.{◌≡◌}
use Rattle.base.specs.Counting.{tally}
use Rattle.rules.specs.Fit.{fits_tile}
use Rattle.fit_pattern.specs.Patch.{shown_in}
use Rattle.fit_windows.proofs.fit_count.Given as goal

abbrev pub invariant-loop-n : goal.invariant-loop-n
invariant-loop-n l = l.count ≡ tally l.n (fits_tile l.tiles (shown_in l.region 3 0))
