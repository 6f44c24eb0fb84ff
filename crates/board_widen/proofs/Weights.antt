-- The weight of a cell of the larger plane, by the two ways of `weight_after`: an old cell's was kept, a new one's was worked out.
-- Assumes nothing.
use Prim.Native.Nat.{ℕ, ◌+◌, ◌-◌, ◌/◌, ◌%◌}
use mathlib.Core.Path.{◌≡◌, sym, ◌∙◌, ap}
use mathlib.Core.Bool.{Bool, true, false}
use mathlib.Core.List.{List}
use lib.ListN.{get_or}
use Rattle.base.specs.Regions.{inside}
use Rattle.base.proofs.Bools.{pick_yes, pick_no}
use Rattle.base.proofs.Numbers.{cell-is}
use Rattle.rules.specs.Grid.{entry_of, cell_at, cell_with, flat}
use Rattle.rules.specs.Places.{new_rows, new_cols, copied_cell}
use Rattle.rules.specs.Board.{weights_of}
use Rattle.rules.specs.declared.Pads.{Pads}
use Rattle.rules.proofs.Copying.{old-place}
use Rattle.board_widen.specs.Wide.{weight_after}

module _ (widepieces weights : List ℕ) (rows cols : ℕ) (p : Pads) (k : ℕ) where
  abbrev is_old : Bool
  is_old = inside p.left (p.left + rows) p.top (p.top + cols) (k / new_cols cols p) (k % new_cols cols p)

  pub weight-kept : is_old ≡ true
      → get_or weights (entry_of cols (cell_at (k / new_cols cols p - p.left) (k % new_cols cols p - p.top))) 0
      ≡ weight_after widepieces weights rows cols p k
  unfolding copied_cell
  weight-kept e = sym (pick_yes _ _ _ (old-place rows cols p _ _ ∙ e))

  pub weight-anew : {w : ℕ} → is_old ≡ false
      → w ≡ get_or (weights_of (flat (new_rows rows p) (new_cols cols p)) widepieces) (entry_of (new_cols cols p) (cell_with (new_cols cols p) k)) 0
      → w ≡ weight_after widepieces weights rows cols p k
  unfolding copied_cell
  weight-anew e q =
      q
      ∙ ap (λ (j : ℕ). get_or (weights_of (flat (new_rows rows p) (new_cols cols p)) widepieces) j 0) (cell-is k (new_cols cols p))
      ∙ sym (pick_no _ _ _ (old-place rows cols p _ _ ∙ e))
