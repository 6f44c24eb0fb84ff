-- The product step and its reverse as two instances of one step: what it does to the probability of a cell, and to the entries of one row
-- of the region.
use Rattle.std.specs.Prelude.{ℕ, zero, ◌+◌, ◌*◌, ◌/◌, ◌%◌, ◌≡◌, true, false, ◌&&◌, List, ltb, length, get_or, Float}
use Rattle.std.specs.Float.{nan}
use Rattle.std.specs.Float.Ieee.{ne}
use Rattle.base.specs.Counting.{pick}
use Rattle.base.specs.Tables.{tab}
use Rattle.base.specs.Regions.{over_region}
use Rattle.rules.specs.Floats.{zero64, one64, times, over}
use Rattle.rules.specs.Probabilities.{Region, Block, in_region, in_block, influence}
use Rattle.rules.specs.declared.Span.{Span}

-- a region and a block of their parts, as the calls hand them over
abbrev pub region_in : Span → Span → Region
region_in rowspan colspan = record { rows = rowspan; cols = colspan }

abbrev pub block_of : ℕ → ℕ → List Float → Block
block_of rows cols entries = record { rows = rows; cols = cols; entries = entries }

-- what a step makes of a probability by its colour, row and column, as the rules' `product_at` and `quotient_at` say
abbrev pub CellStep : Type 0
CellStep = Region → Block → Float → ℕ → ℕ → ℕ → Float

-- what it makes of entry j of a row's part of the region, by the block's factors for that row
abbrev pub RowStep : Type 0
RowStep = List Float → Float → ℕ → Float

-- past the last of the factors the factor is 1.0
unfoldable pub multiplied_by : RowStep
multiplied_by factors p j = times p (pick (ltb j (length factors)) (get_or factors j nan) one64)

unfoldable pub divided_by : RowStep
divided_by factors p j = pick (ltb j (length factors) && ne (get_or factors j nan) zero64) (over p (get_or factors j nan)) p

-- a cell outside the region stays; of the block a step reads no more than the cell's factor; and row by row it is the step of the cells
pub record StepLaws (cell : CellStep) (entry : RowStep) : Type 0 where
  pub outside : (g : Region) (b : Block) (p : Float) (t r c : ℕ) → in_region g r c ≡ false → cell g b p t r c ≡ p
  pub by-factor : (g : Region) (a b : Block) (p : Float) (s t r c : ℕ) → in_block g a r c ≡ in_block g b r c
      → (in_block g b r c ≡ true → influence g a s r c ≡ influence g b t r c) → cell g a p s r c ≡ cell g b p t r c
  pub by-row : (g : Region) (b : Block) (factors : List Float) (p : Float) (t r c j : ℕ) → in_region g r c ≡ true
      → ltb j (length factors) ≡ in_block g b r c
      → (in_block g b r c ≡ true → get_or factors j nan ≡ influence g b t r c) → entry factors p j ≡ cell g b p t r c

-- where row i of a block stands in it; a row past its last is empty
abbrev pub block_row : ℕ → ℕ → ℕ → Span
block_row rows cols i = pick (ltb i rows) (record { 0 = i * cols; 1 = i * cols + cols }) (record { 0 = 0; 1 = 0 })

-- one colour's plane, by its own part of the block
abbrev pub colour_step : CellStep → Region → Block → ℕ → ℕ → Float → Float
colour_step cell g b r c p = cell g b p zero r c

unfoldable pub colour_changed : CellStep → ℕ → Region → Block → List Float → List Float
colour_changed cell cols g b plane = over_region nan (colour_step cell g b) cols g.rows.0 g.rows.1 g.cols.0 g.cols.1 plane

-- those of all colours: each probability changed by its colour, row and column
unfoldable pub colours_changed : CellStep → ℕ → ℕ → Region → Block → List Float → List Float
colours_changed cell cells cols g b plane =
    tab (length plane) (λ q. cell g b (get_or plane q nan) (q / cells) (q % cells / cols) (q % cells % cols))
