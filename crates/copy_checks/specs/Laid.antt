-- The checks of a copy that ask for sides and lengths, what they give, and the rows of a plane laid in a larger one.
use Rattle.std.specs.Prelude.{ℕ, ◌+◌, ◌-◌, ◌*◌, ◌≡◌, true, List, eqb, get_or}
use Rattle.base.specs.Regions.{over_region}
use Rattle.base.specs.Refusal.{Checks, ◌unless◌, ◌then◌}
use Rattle.rules.specs.Bounds.{SHAPE, LENGTH}
use Rattle.rules.specs.Tests.{board_sides}
use Rattle.rules.specs.Grid.{cell_at, entry_of}
use Rattle.rules.specs.Places.{new_rows, new_cols}
use Rattle.rules.specs.declared.Pads.{Pads}

-- the checks that ask no more of the planes than their lengths
abbrev pub size_checks : ℕ → ℕ → Pads → ℕ → ℕ → Checks
size_checks rows cols p held room =
    SHAPE unless board_sides rows cols
    then SHAPE unless board_sides (new_rows rows p) (new_cols cols p)
    then LENGTH unless eqb held (rows * cols)
    then LENGTH unless eqb room (new_rows rows p * new_cols cols p)

-- what they give, and the functions that lay rows lean on
pub record Sized (rows cols : ℕ) (p : Pads) (held room : ℕ) : Type 0 where
  pub old-sides : board_sides rows cols ≡ true
  pub new-sides : board_sides (new_rows rows p) (new_cols cols p) ≡ true
  pub held-is : held ≡ rows * cols
  pub room-is : room ≡ new_rows rows p * new_cols cols p

-- what the cell (r, c) of a larger plane comes to hold, whatever it held: old cell (i, j) is laid at (i + left, j + top)
abbrev pub laid_cell : {A : Type 0} → A → List A → ℕ → ℕ → ℕ → ℕ → ℕ → A → A
laid_cell none plane cols left top r c held = get_or plane (entry_of cols (cell_at (r - left) (c - top))) none

-- the larger plane where the rows are laid. A region's top and bottom are rows, its left and right columns; of the pads, as in document 01,
-- left belongs to the rows and top to the columns
unfoldable pub rows_laid : {A : Type 0} → A → List A → ℕ → ℕ → Pads → List A → List A
rows_laid none plane rows cols p larger =
    over_region none (laid_cell none plane cols p.left p.top) (new_cols cols p) p.left (p.left + rows) p.top (p.top + cols) larger
