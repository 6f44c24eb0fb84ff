-- Regions of a plane that is so many columns wide: the rows from top up to, not including, bottom, and of each the columns from left up
-- to, not including, right. A step says what becomes of a cell by its row, its column and what it held.
use Rattle.std.specs.Prelude.{ℕ, ◌+◌, ◌*◌, ◌/◌, ◌%◌, ◌<◌, ◌≤◌, Bool, ◌&&◌, List, leb, ltb, length, get_or}
use Rattle.base.specs.Counting.{pick}
use Rattle.base.specs.Tables.{tab}

-- from ≤ x < to
abbrev pub between : ℕ → ℕ → ℕ → Bool
between from to x = leb from x && ltb x to

abbrev pub inside : ℕ → ℕ → ℕ → ℕ → ℕ → ℕ → Bool
inside top bottom left right r c = between top bottom r && between left right c

-- the region lies in the plane, and neither side of it ends before it starts
pub record RegionFits (cells cols top bottom left right : ℕ) : Type 0 where
  pub wide : 0 < cols
  pub rowwise : top ≤ bottom
  pub colwise : left ≤ right
  pub ends : right ≤ cols
  pub room : bottom * cols ≤ cells

-- the cells of row r from column left on, each changed by the step
unfoldable pub over_row : {A : Type 0} → A → (ℕ → ℕ → A → A) → ℕ → ℕ → List A → List A
over_row none step r left row = tab (length row) (λ j. step r (left + j) (get_or row j none))

-- the plane with each cell of the region changed by the step; the others stay. `none` is never read
unfoldable pub over_region : {A : Type 0} → A → (ℕ → ℕ → A → A) → ℕ → ℕ → ℕ → ℕ → ℕ → List A → List A
over_region none step cols top bottom left right plane =
    tab (length plane)
    (λ k. pick (inside top bottom left right (k / cols) (k % cols)) (step (k / cols) (k % cols) (get_or plane k none)) (get_or plane k none))
