-- Cells read as one number: each is a byte, the first the lowest.
use Rattle.std.specs.Prelude.{ℕ, zero, suc, ◌+◌, ◌*◌, ◌^◌, List, eqb, get_or}
use Rattle.base.specs.Counting.{pick}

-- the cells of a list from one on
abbrev pub cells_from : List ℕ → ℕ → ℕ → ℕ
cells_from cells at i = get_or cells (at + i) 0

unfoldable pub packed : ℕ → (ℕ → ℕ) → ℕ
packed zero f = 0
packed (suc n) f = f n * 2 ^ (8 * n) + packed n f

-- what is left of a tile's cell where a window shows this colour: all of it, or nothing where the window is bare
abbrev pub mask_of : ℕ → ℕ
mask_of colour = pick (eqb colour 0) 0 255
