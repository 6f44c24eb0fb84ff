-- Forced neighbours once the checks are made: what the functions beneath the call lean on, and their answers one neighbour at a time.
use Rattle.std.specs.Prelude.{Option, ℕ, ◌≡◌, true, List, [], ◌∷◌, ◌++◌, eqb}
use Rattle.base.specs.Counting.{pick}
use Rattle.rules.specs.Tests.{on_wall}
use Rattle.rules.specs.Places.{cell_of}
use Rattle.rules.specs.Grid.{entry_of, Shape, Kind, laid_on}
use Rattle.rules.specs.Forced.{listed_at, only, is_forced}
use Rattle.rules.specs.declared.World.{World}
use Rattle.rules.specs.declared.Offset.{Offset}
use Rattle.rules.specs.declared.ForcedPosition.{ForcedPosition}
use Rattle.fit_windows.specs.Ready.{Ready}
use Rattle.rules.specs.declared.BoundingBox.{BoundingBox}

-- pieces, tiles and colours that are ready, and a place on the wall
pub record Roundable (pieces : List ℕ) (rows cols : ℕ) (tiles : List ℕ) (count : ℕ) (place : World) : Type 0 where
  pub ready : Ready pieces rows cols tiles count
  pub walled : on_wall place ≡ true

-- the eight neighbours row by row, by their numbers in the 3x3; the place itself is 4
abbrev pub round_order : List ℕ
round_order = 0 ∷ 1 ∷ 2 ∷ 3 ∷ 5 ∷ 6 ∷ 7 ∷ 8 ∷ []

-- the only colour that a bare cell lists, 0 where there is none or more than one, or where the cell is laid
abbrev pub only_at : Shape → List ℕ → List ℕ → ℕ → ℕ → ℕ
only_at g tiles pieces count k = pick (laid_on pieces k) 0 (only (listed_at g tiles pieces count k))

-- the colour that is forced at a place, 0 where none is
unfoldable pub forced_colour : Kind → List ℕ → ℕ → ℕ → List ℕ → ℕ → World → Offset → Option BoundingBox → ℕ
forced_colour kind pieces rows cols tiles count place offset b =
    pick (is_forced kind pieces rows cols tiles count place offset b)
    (only (listed_at (kind rows cols) tiles pieces count (entry_of cols (cell_of place offset))))
    0

-- one position more, unless its colour is 0
unfoldable pub with_forced : List ForcedPosition → World → ℕ → List ForcedPosition
with_forced l place colour = l ++ pick (eqb colour 0) [] (record { coordinates = place; colour = colour } ∷ [])
