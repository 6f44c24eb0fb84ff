-- Whole numbers, of which wall coordinates and offsets are.
use Rattle.std.specs.Prelude.{ℕ, Bool, false, ◌&&◌, ltb, eqb, ℤ, pos, negsuc}
use Rattle.std.specs.Int.Signed.{le_z}

-- max(0, z)
abbrev pub clip : ℤ → ℕ
clip (pos n) = n
clip (negsuc n) = 0

-- lo ≤ z ≤ hi
unfoldable pub within_z : ℤ → ℤ → ℤ → Bool
within_z lo hi z = le_z lo z && le_z z hi

-- 0 ≤ z < n
abbrev pub index_below : ℕ → ℤ → Bool
index_below n (pos z) = ltb z n
index_below n (negsuc z) = false

abbrev pub eq_z : ℤ → ℤ → Bool
eq_z (pos a) (pos b) = eqb a b
eq_z (pos a) (negsuc b) = false
eq_z (negsuc a) (pos b) = false
eq_z (negsuc a) (negsuc b) = eqb a b
