-- The scan once its checks are made: what it leans on, and what it finds.
use Rattle.std.specs.Prelude.{Option, ℕ, ◌*◌, ◌≡◌, Bool, List, ltb, length}
use Rattle.base.specs.Counting.{first}
use Rattle.rules.specs.Answers.{if_there}
use Rattle.rules.specs.Grid.{Kind, cell_with}
use Rattle.rules.specs.Forced.{dead_at}
use Rattle.fit_windows.specs.Ready.{Ready}
use Rattle.rules.specs.declared.Cell.{Cell}

-- pieces, tiles and colours that are ready, and a weight for each cell
pub record Scannable (pieces weights : List ℕ) (rows cols : ℕ) (tiles : List ℕ) (count : ℕ) : Type 0 where
  pub ready : Ready pieces rows cols tiles count
  pub weighed : length weights ≡ rows * cols

-- the first of the n cells, in rows of so many columns, of which the test holds, if there is one
unfoldable pub found_by : ℕ → ℕ → (ℕ → Bool) → Option Cell
found_by n cols test = if_there (ltb (first n test) n) (cell_with cols (first n test))

unfoldable pub scanned : Kind → List ℕ → List ℕ → ℕ → ℕ → List ℕ → ℕ → Option Cell
scanned kind pieces weights rows cols tiles count = found_by (rows * cols) cols (dead_at (kind rows cols) tiles pieces weights count)
