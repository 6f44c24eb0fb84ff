-- `fit_scan::first_dead_end` meets its contract: while the loops run, no cell that they passed qualifies. Assumes nothing.
use Rattle.std.specs.Prelude.{Option, None}
use Prim.Native.Nat.{ℕ, ◌*◌, ◌<◌, ◌≤◌}
use mathlib.Core.Path.{◌≡◌}
use mathlib.Core.Bool.{Bool, false}
use mathlib.Core.List.{List}
use Rattle.base.specs.Counting.{some}
use Rattle.rules.specs.Grid.{cell_at, entry_of, flat}
use Rattle.rules.specs.Forced.{dead_at}
use Rattle.fit_scan.proofs.first_dead_end.Given as goal
use Rattle.rules.specs.declared.Cell.{Cell}

abbrev pub dead : List ℕ → List ℕ → ℕ → ℕ → List ℕ → ℕ → ℕ → Bool
dead pieces weights rows cols tiles count = dead_at (flat rows cols) tiles pieces weights count

pub record Outer (test : ℕ → Bool) (rows cols : ℕ) (found : Option Cell) (row : ℕ) : Type 0 where
  pub nowhere : found ≡ None
  pub row_in : row ≤ rows
  pub passed : some (row * cols) test ≡ false

pub record Inner (test : ℕ → Bool) (rows cols : ℕ) (found : Option Cell) (row col : ℕ) : Type 0 where
  pub nowhere : found ≡ None
  pub row_in : row < rows
  pub col-in : col ≤ cols
  pub passed : some (entry_of cols (cell_at row col)) test ≡ false

abbrev pub invariant-loop-col : goal.invariant-loop-col
invariant-loop-col l = Inner (dead l.pieces l.weights l.rows l.cols l.tiles l.count) l.rows l.cols l.found l.row l.col

abbrev pub invariant-scan : goal.invariant-scan
invariant-scan l = Outer (dead l.pieces l.weights l.rows l.cols l.tiles l.count) l.rows l.cols l.found l.row
