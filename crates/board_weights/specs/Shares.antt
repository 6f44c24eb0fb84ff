-- What the loops over the span round a piece make of a weight, by its row and its column, and what they lean on. The calls themselves are
-- stated by document 01's definitions.
use Rattle.std.specs.Prelude.{ℕ, ◌+◌, ◌<◌, ◌≤◌, List, length, get_or}
use Rattle.rules.specs.Grid.{cell_at, distance}
use Rattle.rules.specs.Board.{share}
use Rattle.rules.specs.declared.Cell.{Cell}

-- by a step that is told the weight and what the piece adds there
abbrev pub changed_by : (ℕ → ℕ → ℕ) → Cell → ℕ → ℕ → ℕ → ℕ
changed_by step cell r c weight = step weight (share (distance cell (cell_at r c)))

-- weights at each of which a step can be taken by any share
abbrev pub Ready : (ℕ → ℕ → Type 0) → List ℕ → Type 0
Ready can weights = (i share : ℕ) → i < length weights → share ≤ 3 → can (get_or weights i 0) share

-- weights to which a share can be added in 32 bits, as one within document 01's limit is
abbrev pub Light : List ℕ → Type 0
Light weights = (i : ℕ) → i < length weights → get_or weights i 0 + 3 < 4294967296
