-- The cells of which a score is the mean, row by row as the code visits them: for a cell of the grid only rows above it and columns
-- left of it can be missing. And what the two scores sum.
use Rattle.std.specs.Prelude.{ℕ, zero, suc, ◌+◌, ◌-◌, List, [], ◌++◌, leb, Float}
use Rattle.base.specs.Counting.{pick}
use Rattle.base.specs.Tables.{those}
use Rattle.rules.specs.Grid.{cell_at, entry_of}
use Rattle.rules.specs.Scores.{fraction, mean_of}
use Rattle.rules.specs.Floats.{times}

-- what a score sums of a fraction: itself, or its square
abbrev pub unsquared : Float → Float
unsquared x = x

abbrev pub squared : Float → Float
squared x = times x x

-- the same of the fraction of a cell: with `unsquared` it is the rules' `fraction`, with `squared` their `squared_fraction`
abbrev pub term_of : (Float → Float) → List ℕ → ℕ → ℕ → Float
term_of f counts tiles k = f (fraction counts tiles k)

-- row i of the box of the cell (r, c): columns c-2..=c, from the first that the grid has
abbrev pub place_in : ℕ → ℕ → ℕ → ℕ → ℕ → ℕ
place_in cols r c i j = entry_of cols (cell_at (r + i - 2) (c + j - 2))

unfoldable pub box_row : ℕ → ℕ → ℕ → ℕ → List ℕ
box_row cols r c i = those 3 (leb (2 - c)) (place_in cols r c i)

-- its first n rows
unfoldable pub box_rows : ℕ → ℕ → ℕ → ℕ → List ℕ
box_rows zero cols r c = []
box_rows (suc n) cols r c = box_rows n cols r c ++ pick (leb (2 - r) n) (box_row cols r c n) []

-- the score of the cell (r, c)
unfoldable pub score_at : (Float → Float) → List ℕ → ℕ → ℕ → ℕ → ℕ → Float
score_at f counts tiles cols r c = mean_of (term_of f counts tiles) (box_rows 3 cols r c)
