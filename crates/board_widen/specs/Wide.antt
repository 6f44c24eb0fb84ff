-- The weight of one cell of the larger plane, as the loop takes it, and what it leans on. The call itself is stated by request 1's
-- definitions.
use Rattle.std.specs.Prelude.{ℕ, ◌*◌, ◌/◌, ◌%◌, ◌<◌, ◌≤◌, ◌≡◌, List, length, get_or}
use Rattle.rules.specs.Bounds.{max_board_side}
use Rattle.rules.specs.Grid.{flat}
use Rattle.rules.specs.Places.{new_rows, new_cols, copied_cell}
use Rattle.rules.specs.Board.{weights_of}
use Rattle.rules.specs.declared.Pads.{Pads}

-- an old cell keeps its weight, a new one has what the pieces of the larger plane say
abbrev pub weight_after : List ℕ → List ℕ → ℕ → ℕ → Pads → ℕ → ℕ
weight_after widepieces weights rows cols p k =
    let wide : ℕ = new_cols cols p in
    copied_cell 0 (get_or (weights_of (flat (new_rows rows p) wide) widepieces) k 0) weights rows cols p (k / wide) (k % wide)

-- planes of the old and of the new sides, which are in bounds
pub record Weighable (widepieces weights : List ℕ) (rows cols : ℕ) (p : Pads) : Type 0 where
  pub tall : new_rows rows p ≤ max_board_side
  pub some : 0 < new_cols cols p
  pub wide : new_cols cols p ≤ max_board_side
  pub held : length weights ≡ rows * cols
  pub room : length widepieces ≡ new_rows rows p * new_cols cols p
