-- Numbers and planes as text, byte by byte.
use Rattle.std.specs.Prelude.{ℕ, zero, suc, ◌+◌, ◌-◌, ◌/◌, ◌%◌, List, [], ◌∷◌, ◌++◌, ltb, eqb, length, get_or}
use Rattle.base.specs.Counting.{pick}

-- the last k digits of n at most, without zeros in front
unfoldable pub digits : ℕ → ℕ → List ℕ
digits zero n = []
digits (suc k) n = pick (ltb n 10) [] (digits k (n / 10)) ++ ((48 + n % 10) ∷ [])

-- a number below 10,000,000,000
unfoldable pub decimal : ℕ → List ℕ
decimal n = digits 10 n

-- a number on a line of its own
unfoldable pub number_line : ℕ → List ℕ
number_line n = decimal n ++ 10 ∷ []

-- f 0, f 1, .., f (n-1), one after another
unfoldable pub joined : ℕ → (ℕ → List ℕ) → List ℕ
joined zero f = []
joined (suc n) f = joined n f ++ f n

-- what follows cell k of a plane: a line feed at the end of its row, else a single blank
unfoldable pub parting : ℕ → ℕ → ℕ
parting cols k = pick (eqb (k % cols + 1) cols) 10 32

-- a cell as the number by which it passes the least that the plane can hold: 1 for pieces, whose bare cells store 1, else 0
unfoldable pub cell_text : ℕ → List ℕ → ℕ → ℕ → List ℕ
cell_text least plane cols k = decimal (get_or plane k 0 - least) ++ parting cols k ∷ []

-- a plane row by row
unfoldable pub plane_text : ℕ → List ℕ → ℕ → List ℕ
plane_text least plane cols = joined (length plane) (cell_text least plane cols)
