-- The copy, over any kind of entry, by base's loops over a region.
--     laid-start, laid-turn, laid_done     the loop over the rows: before the first; one row; past the last
--     next_row     where row i is read and where it is laid
--     laid-copied     rows laid in a plane that holds the fill alone make the copy
-- Assumes nothing.
use Prim.Native.Nat.{ℕ, ◌+◌, ◌-◌, ◌*◌, ◌/◌, ◌%◌, ◌<◌, ◌≤◌}
use mathlib.Core.Path.{◌≡◌, refl, sym, ◌∙◌, ap}
use mathlib.Core.List.{List, ◌++◌}
use native.Mathlib.Nat.{add-zero, add_assoc, add-sub_cancel_left, mul-le-mul_right}
use native.Mathlib.Omega.{arith}
use lib.ListN.{length, get_or, take, drop}
use Rattle.base.specs.Tables.{tab}
use Rattle.base.specs.Regions.{RegionFits, over_region}
use Rattle.base.proofs.Bools.{pick_yes, pick_no}
use Rattle.base.proofs.Numbers.{rows_apart}
use Rattle.base.proofs.Tabled.{length-tab, get_d-tab, is-tab}
use Rattle.base.proofs.Sweep.{length_part, part_at}
use Rattle.base.proofs.Regions.{RowsDone, region-start, region-turn, region-done, region-is}
use Rattle.rules.specs.Bounds.{max_board_side, max_cells}
use Rattle.rules.specs.Grid.{cell_at, entry_of}
use Rattle.rules.specs.Places.{new_rows, new_cols, copied_cell, copied}
use Rattle.rules.specs.declared.Pads.{Pads}
use Rattle.rules.proofs.Copying.{old-place}
use Rattle.check_sizes.proofs.Sides.{board-rows, board-cols, few-cells}
use Rattle.copy_checks.specs.Laid.{Sized, laid_cell, rows_laid}

-- ---- over the rows

-- the rows fit in the larger plane, the first of them in row left and each from column top on
pub record RowsFit {A : Type 0} (plane larger : List A) (rows cols left top wide : ℕ) : Type 0 where
  pub region : RegionFits (length larger) wide left (left + rows) top (top + cols)
  pub held : length plane ≡ rows * cols
  pub low : left + rows ≤ max_board_side
  pub few : length larger ≤ max_cells
  pub few-held : length plane ≤ max_cells

-- and in w, which was the larger plane, the rows before row i are laid, by whatever entry the cells past an end are read
pub record Laying {A : Type 0} (plane larger : List A) (rows cols left top wide : ℕ) (w : List A) (i : ℕ) : Type 0 where
  pub fit : RowsFit plane larger rows cols left top wide
  pub done : (none : A) → RowsDone none (laid_cell none plane cols left top) wide left (left + rows) top (top + cols) larger w (left + i)

-- row i of the plane, and its part of w, lie inside these and have one length
pub record NextRow {A : Type 0} (plane w : List A) (cols left top wide i : ℕ) : Type 0 where
  pub read-in : i * cols + cols ≤ length plane
  pub laid_in : entry_of wide (cell_at (left + i) top) + cols ≤ length w
  pub one-length : let from = entry_of wide (cell_at (left + i) top) in
      length (take (from + cols - from) (drop from w)) ≡ length (take (i * cols + cols - i * cols) (drop (i * cols) plane))

module _ {A : Type 0} {plane larger : List A} {rows cols left top : ℕ} where
  pub laid-start : {p : Pads} → Sized rows cols p (length plane) (length larger) → left + rows ≤ new_rows rows p → top + cols ≤ new_cols cols p
      → Laying plane larger rows cols left top (new_cols cols p) larger 0
  laid-start {p} s rowwise colwise =
      record { fit = fit; done = λ none. rw add-zero (region-start none _ _ _ _ _ _ larger fit.region) }
    where
      fit : RowsFit plane larger rows cols left top (new_cols cols p)
      fit =
          record {
            region =
                record {
                  wide = (board-cols (new_rows rows p) (new_cols cols p) s.new-sides).0;
                  rowwise = omega arith;
                  colwise = omega arith;
                  ends = colwise;
                  room = rw s.room-is (mul-le-mul_right (new_cols cols p) rowwise);
                };
            held = s.held-is;
            low = omega (arith, board-rows (new_rows rows p) (new_cols cols p) s.new-sides);
            few = omega (arith, few-cells (new_rows rows p) (new_cols cols p) s.new-sides, s.room-is);
            few-held = omega (arith, few-cells rows cols s.old-sides, s.held-is);
          }

  module _ {wide i : ℕ} {w : List A} (d : Laying plane larger rows cols left top wide w i) where
    pub next_row : length w ≡ length larger → i < rows → NextRow plane w cols left top wide i
    next_row long h =
        record {
          read-in = read-in;
          laid_in = laid_in;
          one-length = omega (arith, length_part w from (from + cols) laid_in, length_part plane (i * cols) (i * cols + cols) read-in);
        }
      where
        from : ℕ
        from = entry_of wide (cell_at (left + i) top)

        read-in : i * cols + cols ≤ length plane
        read-in = omega (arith, rows_apart cols h, d.fit.held)

        below : left + i < left + rows
        below = omega arith

        laid_in : from + cols ≤ length w
        laid_in = omega (arith, rows_apart wide below, d.fit.region.room, d.fit.region.ends, long)

    -- its part was lent to a call that left the row there
    pub laid-turn : {ys : List A} → length w ≡ length larger → i < rows
        → let from = entry_of wide (cell_at (left + i) top) in
        let start = i * cols in
        ys ≡ take (start + cols - start) (drop start plane)
        → Laying plane larger rows cols left top wide (take from w ++ (ys ++ drop (from + cols - from) (drop from w))) (i + 1)
    laid-turn {ys} long h e = record { fit = d.fit; done = done }
      where
        from : ℕ
        from = entry_of wide (cell_at (left + i) top)

        start : ℕ
        start = i * cols

        row : List A
        row = take (start + cols - start) (drop start plane)

        done : (none : A)
            → RowsDone none (laid_cell none plane cols left top) wide left (left + rows) top (top + cols) larger
            (take from w ++ (ys ++ drop (from + cols - from) (drop from w))) (left + (i + 1))
        done none =
            rw (← add_assoc left i 1)
            (region-turn none (laid_cell none plane cols left top) _ _ _ _ _ larger d.fit.region (d.done none) from (from + cols) refl (omega arith)
            (omega arith)
            (e ∙ is-tab none row _ (λ j. get_or row j none) (sym (next_row long h).one-length) (λ k _. refl))
            (λ j b.
            part_at none plane start (start + cols) j (omega arith)
            ∙ ap (λ (k : ℕ). get_or plane k none) (rw (add-sub_cancel_left left i, add-sub_cancel_left top j))))

    pub laid_done : rows ≤ i → (none : A) → w ≡ over_region none (laid_cell none plane cols left top) wide left (left + rows) top (top + cols) larger
    laid_done h none = region-done none _ _ _ _ _ _ larger d.fit.region (d.done none) (omega arith)

-- ---- the copy

pub laid-copied : {A : Type 0} (none fill : A) (plane : List A) (rows cols : ℕ) (p : Pads)
    → rows_laid none plane rows cols p (tab (new_rows rows p * new_cols cols p) (λ k. fill)) ≡ copied none fill plane rows cols p
unfolding rows_laid copied copied_cell
laid-copied none fill plane rows cols p =
    let n = new_rows rows p * new_cols cols p in
    region-is none _ (new_cols cols p) _ _ _ _ (tab n (λ k. fill)) (λ k. copied_cell none fill plane rows cols p (k / new_cols cols p) (k % new_cols cols p))
    (λ k h t. pick_yes _ _ _ (old-place rows cols p _ _ ∙ t))
    (λ k h t. pick_no _ _ _ (old-place rows cols p _ _ ∙ t) ∙ sym (get_d-tab n (λ j. fill) k none (omega (arith, length-tab n (λ (j : ℕ). fill)))))
    ∙ rw length-tab
