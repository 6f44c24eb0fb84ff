-- Wall coordinates and cells: a place on the board has a cell of the board and no other place has that cell; each cell has a place on the
-- wall. In a wider panel a place lies where its cell was moved to. Assumes nothing.
use Prim.Native.Nat.{ℕ, ◌+◌, ◌*◌, ◌/◌, ◌%◌, ◌<◌, ◌≤◌}
use mathlib.Core.Path.{◌≡◌, sym, ◌∙◌, ap}
use mathlib.Core.Bool.{Bool, true}
use native.Mathlib.Nat.{add_comm}
use native.Mathlib.Omega.{arith}
use lib.IntN.{ℤ, pos, ◌+ℤ◌, ◌-ℤ◌, +ℤ_assoc, pos-+ℤ-pos, -ℤ-+ℤ_cancel}
use borrow.Author.Tests.{lt-ltb}
use Rattle.base.specs.Counting.{within}
use Rattle.base.specs.Whole.{clip, within_z, index_below, eq_z}
use Rattle.base.proofs.Bools.{and_left, and_right, and_both}
use Rattle.base.proofs.Numbers.{cell-lt, row_of, col-of, cell-is, row_in, col-in, within-high}
use Rattle.base.proofs.Signs.{eq_z-same, eq_z-true, index-clip, index-pos}
use Rattle.rules.specs.Bounds.{max_board_side, min_offset, max_offset}
use Rattle.rules.specs.Tests.{board_sides, on_wall, offset_fits, on_board}
use Rattle.rules.specs.Places.{cell_of, same_place, extension_by, new_rows, new_cols}
use Rattle.rules.specs.Board.{Panel, entry_in}
use Rattle.rules.specs.Widening.{wider}
use Rattle.rules.specs.declared.World.{World}
use Rattle.rules.specs.declared.Pads.{Pads}
use Rattle.rules.proofs.Walled.{back, less-offset}
use Rattle.stand.specs.Runs.{wall_of}
use Rattle.stand.proofs.Widened.{embedded}

-- the cell of a wall coordinate lies on the board
abbrev pub lies : Panel → World → Bool
lies j v = on_board j.rows j.cols v j.offset

-- and it is a coordinate that a call may name
pub record On (j : Panel) (w : World) : Type 0 where
  pub wall : on_wall w ≡ true
  pub board : lies j w ≡ true

-- the test of one place
pub one_place : (v w : World) → same_place v w ≡ true → v ≡ w
unfolding same_place
one_place v w e =
    let r : v.0 ≡ w.0 = eq_z-true v.0 w.0 (and_left (eq_z v.0 w.0) (eq_z v.1 w.1) e) in
    let c : v.1 ≡ w.1 = eq_z-true v.1 w.1 (and_right (eq_z v.0 w.0) (eq_z v.1 w.1) e) in
    λ i. record { 0 = r i; 1 = c i }

pub place-itself : (v : World) → same_place v v ≡ true
unfolding same_place
place-itself v = and_both _ _ (eq_z-same v.0) (eq_z-same v.1)

module _ (j : Panel) where
  -- index = coordinate + offset
  abbrev row_z : World → ℤ
  row_z w = w.0 +ℤ j.offset.0

  abbrev col_z : World → ℤ
  col_z w = w.1 +ℤ j.offset.1

  row_on : (w : World) → lies j w ≡ true → index_below j.rows (row_z w) ≡ true
  unfolding on_board
  row_on w on = and_left (index_below j.rows (row_z w)) (index_below j.cols (col_z w)) on

  col-on : (w : World) → lies j w ≡ true → index_below j.cols (col_z w) ≡ true
  unfolding on_board
  col-on w on = and_right (index_below j.rows (row_z w)) (index_below j.cols (col_z w)) on

  -- the column and the row of a place on the board
  col-low : (w : World) → lies j w ≡ true → clip (col_z w) < j.cols
  col-low w on = index-clip j.cols (col_z w) (col-on w on)

  pub cell_in : (w : World) → lies j w ≡ true → entry_in j w < j.rows * j.cols
  unfolding cell_of
  cell_in w on = cell-lt (index-clip j.rows (row_z w) (row_on w on)) (col-low w on)

  -- the row and the column of its cell
  pub entry_row : (w : World) → lies j w ≡ true → entry_in j w / j.cols ≡ (cell_of w j.offset).0
  unfolding cell_of
  entry_row w on = row_of (clip (row_z w)) (col-low w on)

  pub entry-col : (w : World) → lies j w ≡ true → entry_in j w % j.cols ≡ (cell_of w j.offset).1
  unfolding cell_of
  entry-col w on = col-of (clip (row_z w)) (col-low w on)

  -- the place of the cell of a place is the place itself
  pub place-back : (v : World) → lies j v ≡ true → wall_of j (entry_in j v) ≡ v
  unfolding wall_of cell_of
  place-back v on =
      let r : pos (entry_in j v / j.cols) -ℤ j.offset.0 ≡ v.0 =
      rw (row_of (clip (row_z v)) (col-low v on)) (back j.rows v.0 j.offset.0 (row_on v on)) in
      let c : pos (entry_in j v % j.cols) -ℤ j.offset.1 ≡ v.1 =
      rw (col-of (clip (row_z v)) (col-low v on)) (back j.cols v.1 j.offset.1 (col-on v on)) in
      λ i. record { 0 = r i; 1 = c i }

  -- cell k has a place on the board
  pub wall-lies : (k : ℕ) → k < j.rows * j.cols → lies j (wall_of j k) ≡ true
  unfolding wall_of on_board
  wall-lies k k< =
      and_both _ _
      (ap (index_below j.rows) (-ℤ-+ℤ_cancel (pos (k / j.cols)) j.offset.0) ∙ lt-ltb (k / j.cols) j.rows (row_in k j.rows j.cols k<))
      (ap (index_below j.cols) (-ℤ-+ℤ_cancel (pos (k % j.cols)) j.offset.1) ∙ lt-ltb (k % j.cols) j.cols (col-in k j.rows j.cols k<))

  -- and its cell is k
  pub wall-cell : (k : ℕ) → entry_in j (wall_of j k) ≡ k
  unfolding wall_of cell_of
  wall-cell k =
      rw (-ℤ-+ℤ_cancel (pos (k / j.cols)) j.offset.0, -ℤ-+ℤ_cancel (pos (k % j.cols)) j.offset.1) (cell-is k j.cols)

-- the bounds of the sides
pub record Sides (rows cols : ℕ) : Type 0 where
  pub rows-low : rows ≤ max_board_side
  pub cols-low : cols ≤ max_board_side

pub sides-in : (rows cols : ℕ) → board_sides rows cols ≡ true → Sides rows cols
unfolding board_sides
sides-in rows cols e =
    record {
      rows-low = within-high 1 max_board_side rows (and_left (within 1 max_board_side rows) (within 1 max_board_side cols) e);
      cols-low = within-high 1 max_board_side cols (and_right (within 1 max_board_side rows) (within 1 max_board_side cols) e);
    }

-- where the sides and the offset are in bounds, it is a coordinate that a call may name
pub wall-on : (j : Panel) (k : ℕ) → Sides j.rows j.cols → offset_fits j.offset ≡ true → k < j.rows * j.cols → On j (wall_of j k)
unfolding wall_of on_wall offset_fits
wall-on j k sides fits k< =
    let r< : k / j.cols < j.rows = row_in k j.rows j.cols k< in
    let c< : k % j.cols < j.cols = col-in k j.rows j.cols k< in
    let o = j.offset in
    record {
      wall =
          and_both _ _
          (less-offset (k / j.cols) o.0 (omega arith) (and_left (within_z min_offset max_offset o.0) (within_z min_offset max_offset o.1) fits))
          (less-offset (k % j.cols) o.1 (omega arith) (and_right (within_z min_offset max_offset o.0) (within_z min_offset max_offset o.1) fits));
      board = wall-lies j k k<;
    }

-- ---- in the wider panel

-- the index of a coordinate, moved by the pad before it
moved : (n l : ℕ) (x o : ℤ) → index_below n (x +ℤ o) ≡ true → x +ℤ (o +ℤ pos l) ≡ pos (l + clip (x +ℤ o))
moved n l x o e =
    sym (+ℤ_assoc x o (pos l))
    ∙ ap (λ (z : ℤ). z +ℤ pos l) (index-pos n (x +ℤ o) e)
    ∙ pos-+ℤ-pos (clip (x +ℤ o)) l
    ∙ ap pos (add_comm (clip (x +ℤ o)) l)

module _ (j : Panel) (p : Pads) (v : World) (on : lies j v ≡ true) where
  row_moved : v.0 +ℤ (j.offset.0 +ℤ pos p.left) ≡ pos (p.left + clip (row_z j v))
  row_moved = moved j.rows p.left v.0 j.offset.0 (row_on j v on)

  col-moved : v.1 +ℤ (j.offset.1 +ℤ pos p.top) ≡ pos (p.top + clip (col_z j v))
  col-moved = moved j.cols p.top v.1 j.offset.1 (col-on j v on)

  -- a place on the board lies on the wider one
  pub lies-wider : lies (wider j p) v ≡ true
  unfolding on_board extension_by
  lies-wider =
      let r< : clip (row_z j v) < j.rows = index-clip j.rows (row_z j v) (row_on j v on) in
      let c< : clip (col_z j v) < j.cols = col-low j v on in
      and_both _ _
      (ap (index_below (new_rows j.rows p)) row_moved ∙ lt-ltb (p.left + clip (row_z j v)) (new_rows j.rows p) (omega arith))
      (ap (index_below (new_cols j.cols p)) col-moved ∙ lt-ltb (p.top + clip (col_z j v)) (new_cols j.cols p) (omega arith))

  -- and its cell there is where its cell was moved to
  pub entry-wider : entry_in (wider j p) v ≡ embedded j.cols p (entry_in j v)
  unfolding cell_of extension_by
  entry-wider = rw (row_moved, col-moved, row_of (clip (row_z j v)) (col-low j v on), col-of (clip (row_z j v)) (col-low j v on))

-- the cells of the old panel keep their places
pub wall-wider : (j : Panel) (p : Pads) (k : ℕ) → k < j.rows * j.cols → wall_of (wider j p) (embedded j.cols p k) ≡ wall_of j k
wall-wider j p k k< =
    let on : lies j (wall_of j k) ≡ true = wall-lies j k k< in
    ap (wall_of (wider j p)) (ap (embedded j.cols p) (sym (wall-cell j k)) ∙ sym (entry-wider j p (wall_of j k) on))
    ∙ place-back (wider j p) (wall_of j k) (lies-wider j p (wall_of j k) on)
