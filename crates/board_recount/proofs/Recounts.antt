-- Laws of one region's count after a change: the ways of `count_after`, and that recounting the regions that start in the spans of radius 2
-- round a cell is document 01's recount: further away nothing is recounted.
-- Assumes nothing.
use Prim.Native.Nat.{ℕ, ◌+◌, ◌<◌, ◌≤◌}
use mathlib.Core.Path.{◌≡◌, sym, ◌∙◌, ap}
use mathlib.Core.Bool.{Bool, true, false, ◌&&◌}
use mathlib.Core.List.{List}
use native.Mathlib.Nat.{min-le_right}
use native.Mathlib.Omega.{arith}
use lib.Dec.{leb, ltb}
use borrow.Author.Tests.{le-leb, lt-leb, lt-ltb, le-ltb}
use Rattle.base.proofs.Bools.{and_both, and-no-left, and-no-right, pick_yes, pick_no}
use Rattle.base.proofs.Numbers.{row_of, col-of, cell-is}
use Rattle.base.proofs.Regions.{region-is}
use Rattle.rules.specs.Grid.{cell_at, entry_of, flat}
use Rattle.rules.specs.Fit.{pattern, fit_count}
use Rattle.rules.specs.Board.{recounted, is_recounted}
use Rattle.rules.specs.declared.Cell.{Cell}
use Rattle.rules.specs.declared.Spans.{Spans}
use Rattle.board_near.specs.Near.{OnPlane, Nearby}
use Rattle.board_near.proofs.Nearby.{apart-is, near-region, near-far, near-close}
use Rattle.board_near.proofs.Leaning.{in-plane}
use Rattle.board_recount.specs.Recounted.{recounted_by, recounted_in, InSpans}

-- the region that starts at (row, col) lies inside the flat grid
whole_is : (rows cols row col : ℕ) → col < cols → (flat rows cols).whole (entry_of cols (cell_at row col)) ≡ (ltb (row + 2) rows && ltb (col + 2) cols)
unfolding flat
whole_is rows cols row col h = rw (row_of row {c = col} {cols = cols} h, col-of row {c = col} {cols = cols} h)

module _ (tiles pieces : List ℕ) (rows cols row col old : ℕ) (h : col < cols) where
  pub stays-low : rows ≤ row + 2 → old ≡ recounted_by (flat rows cols) cols tiles pieces row col old
  unfolding recounted_by
  stays-low p = sym (pick_no _ _ _ (whole_is rows cols row col h ∙ and-no-left (ltb (row + 2) rows) _ (le-ltb (row + 2) rows p)))

  pub stays-right : cols ≤ col + 2 → old ≡ recounted_by (flat rows cols) cols tiles pieces row col old
  unfolding recounted_by
  stays-right p = sym (pick_no _ _ _ (whole_is rows cols row col h ∙ and-no-right (ltb (row + 2) rows) _ (le-ltb (col + 2) cols p)))

  pub counted : (n : ℕ) → row + 2 < rows → col + 2 < cols → n ≡ fit_count tiles (pattern (flat rows cols) pieces (entry_of cols (cell_at row col)))
      → n ≡ recounted_by (flat rows cols) cols tiles pieces row col old
  unfolding recounted_by
  counted n p q e =
      e
      ∙ sym (pick_yes _ _ _ (whole_is rows cols row col h ∙ and_both (ltb (row + 2) rows) _ (lt-ltb (row + 2) rows p) (lt-ltb (col + 2) cols q)))

-- the spans round a cell
module _ (rows cols : ℕ) (cell : Cell) (spans : Spans) (l : List ℕ) (on : OnPlane l rows cols cell) (near : Nearby rows cols cell spans) where
  pub in-spans : InSpans l rows cols spans
  in-spans =
      record {
        region = near-region rows cols cell spans near l on;
        long = on.long;
        short = (in-plane l rows cols cell on).1;
        bottom = omega (arith, near.bottom, min-le_right (cell.0 + 3) rows);
      }

  -- a region start is recounted by document 01's rule
  near-is : (k : ℕ) (t : Bool) → leb ((flat rows cols).apart (entry_of cols cell) k) 2 ≡ t → is_recounted (flat rows cols) (entry_of cols cell) k ≡ (t && (flat rows cols).whole k)
  near-is k t e = ap (λ (b : Bool). b && (flat rows cols).whole k) e

  pub recounted-is : (tiles pieces : List ℕ)
      → recounted_in (flat rows cols) cols tiles pieces spans l ≡ recounted (flat rows cols) tiles pieces (entry_of cols cell) l
  unfolding recounted_in recounted_by recounted
  recounted-is tiles pieces =
      region-is 0 _ cols spans.rows.0 spans.rows.1 spans.cols.0 spans.cols.1 l _
      (λ k k< e.
      let d = (flat rows cols).apart (entry_of cols cell) k in
      let close : d ≤ 2 = omega (arith, apart-is rows cols cell k on.colwise, near-close rows cols cell spans near k e) in
      rw (near-is k true (le-leb d 2 close), cell-is k cols))
      (λ k k< e.
      let d = (flat rows cols).apart (entry_of cols cell) k in
      let wide : 0 < cols = omega (arith, on.colwise) in
      let far : 2 < d = omega (arith, apart-is rows cols cell k on.colwise, near-far rows cols cell spans near k wide (omega (arith, on.long)) e) in
      rw (near-is k false (lt-leb d 2 far)))
