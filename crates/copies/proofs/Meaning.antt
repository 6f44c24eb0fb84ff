-- What the copy holds, cell by cell: old cell (i, j) stands at (i + left, j + top), and every other cell holds the fill.
-- Assumes nothing.
use Prim.Native.Nat.{ℕ, ◌+◌, ◌<◌, ◌≤◌}
use mathlib.Core.Path.{◌≡◌, ◌∙◌}
use mathlib.Core.List.{List}
use mathlib.Core.Logic.{◌⊎◌, ⊎_elim}
use native.Mathlib.Nat.{add_comm}
use native.Mathlib.Omega.{arith}
use lib.ListN.{get_or}
use Rattle.base.specs.Regions.{between}
use Rattle.base.proofs.Bools.{and-no-left, and-no-right}
use Rattle.base.proofs.Numbers.{cell-lt, row_of, col-of}
use Rattle.base.proofs.Tabled.{get_d-tab}
use Rattle.base.proofs.Regions.{not-before, not_after}
use Rattle.rules.specs.Grid.{cell_at, entry_of}
use Rattle.rules.specs.Places.{new_rows, new_cols, copied_cell, copied}
use Rattle.rules.specs.declared.Pads.{Pads}
use Rattle.rules.proofs.Copying as Copying·
use Rattle.rules.proofs.Copying.{old-cell}

module _ {A : Type 0} (none fill : A) (plane : List A) (rows cols : ℕ) (p : Pads) where
  cell-at : (r c : ℕ) → r < new_rows rows p → c < new_cols cols p
      → get_or (copied none fill plane rows cols p) (entry_of (new_cols cols p) (cell_at r c)) none ≡ copied_cell none fill plane rows cols p r c
  unfolding copied
  cell-at r c h k = get_d-tab _ _ (entry_of (new_cols cols p) (cell_at r c)) none (cell-lt h k) ∙ rw (row_of r k, col-of r k)

  pub moved : (i j : ℕ) → i < rows → j < cols
      → get_or (copied none fill plane rows cols p) (entry_of (new_cols cols p) (cell_at (i + p.left) (j + p.top))) none
      ≡ get_or plane (entry_of cols (cell_at i j)) none
  moved i j h k =
      cell-at (i + p.left) (j + p.top) (omega arith) (omega arith)
      ∙ rw (add_comm i p.left, add_comm j p.top) (old-cell none fill plane rows cols p i j h k)

  pub new-cell : (r c : ℕ) → r < new_rows rows p → c < new_cols cols p
      → ((r < p.left) ⊎ (p.left + rows ≤ r)) ⊎ ((c < p.top) ⊎ (p.top + cols ≤ c))
      → get_or (copied none fill plane rows cols p) (entry_of (new_cols cols p) (cell_at r c)) none ≡ fill
  new-cell r c h k out =
      cell-at r c h k
      ∙ Copying·.new-cell none fill plane rows cols p r c
      (⊎_elim
      (λ o. and-no-left _ _ (⊎_elim (not-before _ _ r) (not_after _ _ r) o))
      (λ o. and-no-right (between p.left (p.left + rows) r) _ (⊎_elim (not-before _ _ c) (not_after _ _ c) o))
      out)
