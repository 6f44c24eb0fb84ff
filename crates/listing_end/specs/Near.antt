-- What the functions that print the scan lean on.
use Rattle.std.specs.Prelude.{Option, Some, None, Ok, Err, ◌≤◌}
use Rattle.rules.specs.Bounds.{max_cells}
use Rattle.rules.specs.Answers.{Answer}
use Rattle.rules.specs.declared.Cell.{Cell}

-- the row and the column of a dead end that is printed have at most four digits
abbrev pub Near : Answer (Option Cell) → Type 0
Near (Ok (Some cell)) = (cell.0 ≤ max_cells) × (cell.1 ≤ max_cells)
Near (Ok None) = Unit
Near (Err refusal) = Unit
