-- The count of one region after a change near it, as the loops take it, over any shape of grid; the counts of the regions that start in
-- two spans; and what the loops lean on. The call itself is stated by document 01's definitions.
use Rattle.std.specs.Prelude.{ℕ, ◌*◌, ◌≤◌, ◌≡◌, List, length}
use Rattle.base.specs.Counting.{pick}
use Rattle.base.specs.Regions.{RegionFits, over_region}
use Rattle.rules.specs.Bounds.{max_cells}
use Rattle.rules.specs.Grid.{Shape, cell_at, entry_of}
use Rattle.rules.specs.Fit.{pattern, fit_count}
use Rattle.rules.specs.declared.Spans.{Spans}

-- a region that lies inside the grid is counted anew, another count stays
unfoldable pub recounted_by : Shape → ℕ → List ℕ → List ℕ → ℕ → ℕ → ℕ → ℕ
recounted_by g cols tiles pieces r c old =
    pick (g.whole (entry_of cols (cell_at r c))) (fit_count tiles (pattern g pieces (entry_of cols (cell_at r c)))) old

-- the regions that start in two spans
unfoldable pub recounted_in : Shape → ℕ → List ℕ → List ℕ → Spans → List ℕ → List ℕ
recounted_in g cols tiles pieces spans counts =
    over_region 0 (recounted_by g cols tiles pieces) cols spans.rows.0 spans.rows.1 spans.cols.0 spans.cols.1 counts

-- two spans of a plane in bounds
pub record InSpans (counts : List ℕ) (rows cols : ℕ) (spans : Spans) : Type 0 where
  pub region : RegionFits (length counts) cols spans.rows.0 spans.rows.1 spans.cols.0 spans.cols.1
  pub long : length counts ≡ rows * cols
  pub short : length counts ≤ max_cells
  pub bottom : spans.rows.1 ≤ rows
