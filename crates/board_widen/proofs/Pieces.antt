-- The pieces of the larger plane: how they come to stand there, and that they are a board's again.
-- Assumes nothing.
use Prim.Native.Nat.{ℕ, ◌+◌, ◌*◌, ◌/◌, ◌%◌, ◌<◌, ◌≤◌}
use mathlib.Core.Path.{◌≡◌, sym, ◌∙◌, subst}
use mathlib.Core.Bool.{true}
use mathlib.Core.List.{List}
use native.Mathlib.Omega.{arith}
use lib.ListN.{length, get_or}
use Rattle.base.specs.Tables.{tab}
use Rattle.base.specs.Regions.{inside}
use Rattle.base.proofs.Bools.{by-test, pick_yes, pick_no}
use Rattle.base.proofs.Tabled.{length-tab, get_d-tab}
use Rattle.rules.specs.Bounds.{max_colours}
use Rattle.rules.specs.Tests.{board_sides}
use Rattle.rules.specs.Places.{new_rows, new_cols, copied_cell, copied}
use Rattle.rules.specs.Widening.{widened_pieces}
use Rattle.rules.specs.declared.Pads.{Pads}
use Rattle.rules.proofs.Copying.{old-place, old-at}
use Rattle.check_sizes.proofs.Sides.{board-rows, board-cols}
use Rattle.fit_windows.specs.Ready.{Countable}
use Rattle.copy_checks.specs.Laid.{rows_laid}
use Rattle.copy_checks.proofs.Copied.{laid-copied}

module _ (rows cols : ℕ) (p : Pads) (pieces : List ℕ) where
  -- laid in a plane that was filled
  pub pieces-moved : {v w : List ℕ} (m : ℕ) → v ≡ rows_laid 0 pieces rows cols p w → w ≡ tab m (λ k. 1)
      → m ≡ new_rows rows p * new_cols cols p → v ≡ widened_pieces rows cols p pieces
  unfolding widened_pieces
  pieces-moved m e f q = e ∙ rw (f, q) (laid-copied 0 1 pieces rows cols p)

  pub length-widened : length (widened_pieces rows cols p pieces) ≡ new_rows rows p * new_cols cols p
  unfolding widened_pieces copied
  length-widened = length-tab _ _

  -- what holds of every piece and of a bare cell holds of every piece then
  keeps : (P : ℕ → Type 0) → P 1 → length pieces ≡ rows * cols → ((k : ℕ) → k < length pieces → P (get_or pieces k 0))
      → (k : ℕ) → k < length (widened_pieces rows cols p pieces) → P (get_or (widened_pieces rows cols p pieces) k 0)
  unfolding widened_pieces copied copied_cell
  keeps P one long h k k< =
      subst P (sym (get_d-tab n _ k 0 (omega (arith, length-widened))))
      (by-test (inside p.left (p.left + rows) p.top (p.top + cols) r c)
      (λ e. subst P (sym (pick_yes _ _ _ (old-place rows cols p r c ∙ e))) (h _ (omega (arith, long, (old-at rows cols p r c e).entry))))
      (λ e. subst P (sym (pick_no _ _ _ (old-place rows cols p r c ∙ e))) one))
    where
      n : ℕ
      n = new_rows rows p * new_cols cols p

      r : ℕ
      r = k / new_cols cols p

      c : ℕ
      c = k % new_cols cols p

  pub widened-countable : (tiles : List ℕ) → board_sides (new_rows rows p) (new_cols cols p) ≡ true → Countable pieces rows cols tiles
      → Countable (widened_pieces rows cols p pieces) (new_rows rows p) (new_cols cols p) tiles
  widened-countable tiles s h =
      let b = h.board in
      record {
        board = record {
          tall = (board-rows _ _ s).1;
          wide = (board-cols (new_rows rows p) (new_cols cols p) s).1;
          plane = length-widened;
          least = keeps (λ x. 1 ≤ x) (omega arith) b.plane b.least;
          most = keeps (λ x. x ≤ max_colours + 1) (omega arith) b.plane b.most;
        };
        whole = h.whole;
        few = h.few;
      }
