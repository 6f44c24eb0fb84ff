-- What a step of the listing leaves of a set of colours: those of them of which a test holds; and the test of a window in the patch.
use Rattle.std.specs.Prelude.{ℕ, ◌/◌, ◌%◌, ◌^◌, ◌<◌, ◌≤◌, ◌≡◌, Bool, not, ◌&&◌, ◌||◌, List, leb}
use Rattle.rules.specs.Bounds.{max_colours}
use Rattle.rules.specs.Sets.{has, bits_of}
use Rattle.rules.specs.Fit.{has_fitting}
use Rattle.fit_pattern.specs.Patch.{window_of}

-- those of the colours 1 to n that are in the set and of which the test holds
abbrev pub kept_of : ℕ → ℕ → (ℕ → Bool) → ℕ
kept_of n bits test = bits_of n (λ t. has bits t && test t)

-- x has those colours of the set of which the test holds: in any number of bits that holds the set, up to the most colours that there are
pub record Keeps (bits : ℕ) (test : ℕ → Bool) (x : ℕ) : Type 0 where
  pub is : (n : ℕ) → n ≤ max_colours → bits < 2 ^ n → x ≡ kept_of n bits test

-- the window that has the cell (row, col) at place q starts above or left of the grid, or has, where it stands in the patch round the
-- cell, a fitting tile with colour t at the cell's place
abbrev pub allows_in : List ℕ → List ℕ → ℕ → ℕ → ℕ → ℕ → Bool
allows_in tiles patch row col t q = not (leb (q / 3) row && leb (q % 3) col) || has_fitting tiles (window_of patch q) q t
