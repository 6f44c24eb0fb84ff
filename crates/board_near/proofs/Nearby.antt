-- The spans of radius 2 round a cell of the flat board: they are a region of each of its planes, and its cells are those at most two away.
--     near-region    the region lies in the plane
--     near-far, near-close   outside it a cell is further than 2 away, inside it at most 2
-- Assumes nothing.
use Prim.Native.Nat.{ℕ, ◌+◌, ◌-◌, ◌*◌, ◌/◌, ◌%◌, ◌<◌, ◌≤◌, min}
use mathlib.Core.Path.{◌≡◌}
use mathlib.Core.Bool.{Bool, true, false}
use mathlib.Core.List.{List}
use mathlib.Core.Logic.{⊎_elim}
use native.Mathlib.Nat.{le-max_left, le-max_right, le_trans, le-min, min-le_left, min-le_right, max-le, mul-le-mul_right}
use native.Mathlib.Omega.{arith}
use lib.ListN.{length}
use Rattle.base.specs.Regions.{between, inside, RegionFits}
use Rattle.base.proofs.Bools.{and_left, and_right, by-test, and_both, never}
use Rattle.base.proofs.Numbers.{row_of, col-of, row_lt, col-lt, lt-or-le}
use Rattle.base.proofs.Regions.{between-low, between-high, is-between}
use Rattle.rules.specs.Grid.{entry_of, cell_with, gap, distance, flat}
use Rattle.rules.specs.declared.Cell.{Cell}
use Rattle.rules.specs.declared.Spans.{Spans}
use Rattle.board_near.specs.Near.{OnPlane, Nearby}

-- the distance on the flat board from a cell to the one of entry k
pub apart-is : (rows cols : ℕ) (cell : Cell) (k : ℕ) → cell.1 < cols → (flat rows cols).apart (entry_of cols cell) k ≡ distance cell (cell_with cols k)
unfolding flat
apart-is rows cols cell k h = rw (row_of cell.0 {c = cell.1} {cols = cols} h, col-of cell.0 {c = cell.1} {cols = cols} h)

-- an index that is not in the span of radius 2 round x is further than 2 from it
gap-far : (x side n : ℕ) → n < side → between (x - 2) (min (x + 3) side) n ≡ false → 2 < gap x n
gap-far x side n n< e =
    ⊎_elim (λ lt. omega arith)
    (λ ge. ⊎_elim (λ lt. never (between (x - 2) (min (x + 3) side) n) (is-between (x - 2) (min (x + 3) side) n ge (low lt)) e) (λ up. omega arith) (lt-or-le n (x + 3)))
    (lt-or-le n (x - 2))
  where
    low : n < x + 3 → n < min (x + 3) side
    low lt = le-min lt n<

gap-close : (x side n : ℕ) → between (x - 2) (min (x + 3) side) n ≡ true → gap x n ≤ 2
gap-close x side n e =
    omega (arith, between-low (x - 2) (min (x + 3) side) n e, between-high (x - 2) (min (x + 3) side) n e, min-le_left (x + 3) side)

module _ (rows cols : ℕ) (cell : Cell) (spans : Spans) (near : Nearby rows cols cell spans) where
  abbrev in_near : ℕ → Bool
  in_near k = inside spans.rows.0 spans.rows.1 spans.cols.0 spans.cols.1 (k / cols) (k % cols)

  pub near-region : (plane : List ℕ) → OnPlane plane rows cols cell → RegionFits (length plane) cols spans.rows.0 spans.rows.1 spans.cols.0 spans.cols.1
  near-region plane on =
      let below : cell.0 - 2 ≤ min (cell.0 + 3) rows = le-min (omega arith) (omega (arith, on.rowwise)) in
      let right : cell.1 - 2 ≤ min (cell.1 + 3) cols = le-min (omega arith) (omega (arith, on.colwise)) in
      let ends : min (cell.0 + 3) rows * cols ≤ rows * cols = mul-le-mul_right cols (min-le_right (cell.0 + 3) rows) in
      record {
        wide = omega (arith, on.colwise);
        rowwise = omega (arith, near.top, near.bottom);
        colwise = omega (arith, near.left, near.right);
        ends = omega (arith, near.right, min-le_right (cell.1 + 3) cols);
        room = rw near.bottom (omega (arith, on.long));
      }

  pub near-far : (k : ℕ) → 0 < cols → k < rows * cols → in_near k ≡ false → 2 < distance cell (cell_with cols k)
  near-far k wide k< e =
      by-test (between (cell.0 - 2) (min (cell.0 + 3) rows) (k / cols))
      (λ r. by-test (between (cell.1 - 2) (min (cell.1 + 3) cols) (k % cols))
      (λ c. never (in_near k) (rw (near.top, near.bottom, near.left, near.right) (and_both _ _ r c)) e)
      (λ c. le_trans (gap-far cell.1 cols (k % cols) (col-lt k cols wide) c) (le-max_right (gap cell.0 (k / cols)) (gap cell.1 (k % cols)))))
      (λ r. le_trans (gap-far cell.0 rows (k / cols) (row_lt k rows cols wide k<) r) (le-max_left (gap cell.0 (k / cols)) (gap cell.1 (k % cols))))

  pub near-close : (k : ℕ) → in_near k ≡ true → distance cell (cell_with cols k) ≤ 2
  near-close k e =
      let f : inside (cell.0 - 2) (min (cell.0 + 3) rows) (cell.1 - 2) (min (cell.1 + 3) cols) (k / cols) (k % cols) ≡ true =
      rw (near.top, near.bottom, near.left, near.right) at e in
      max-le
      (gap-close cell.0 rows (k / cols) (and_left _ _ f))
      (gap-close cell.1 cols (k % cols) (and_right (between (cell.0 - 2) (min (cell.0 + 3) rows) (k / cols)) _ f))
