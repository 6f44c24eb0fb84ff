-- `board_widen::weight_after` meets its contract, by its two ways out: a new cell, and an old one. Assumes nothing.
use mathlib.Core.Path.{sym, ◌∙◌}
use Prim.Native.Nat.{◌*◌, ◌/◌, ◌%◌, ◌≤◌}
use native.Mathlib.Omega.{arith}
use Rattle.base.proofs.Numbers.{row_lt, col-lt, mul-le}
use Rattle.rules.specs.Bounds.{max_board_side, max_cells}
use Rattle.rules.specs.Places.{new_cols}
use Rattle.rules.proofs.Copying.{OldAt, old-at}
use Rattle.board_widen.proofs.Weights.{weight-kept, weight-anew}
use Rattle.board_widen.proofs.weight_after.Goals.{Then-is_old}
use Rattle.board_widen.proofs.weight_after.Goals as goal

pub weight_at-requires : goal.weight_at-requires
weight_at-requires c =
    let a = c.args in
    let b = c.requires.weighable in
    record {
      tall = b.tall;
      wide = b.wide;
      long = b.room;
      rowwise = row_lt a.k _ _ b.some c.requires.k_bound;
      colwise = col-lt a.k _ b.some;
    }

pub returns-else-is_old : goal.returns-else-is_old
returns-else-is_old c = weight-anew _ _ _ _ _ _ (sym c.is_old.ensures ∙ c.if-is_old.false) c.weight_at.ensures

-- the cell is an old one, and the old plane is small
old : (c : Then-is_old)
    → let a = c.args in
    let wide = new_cols a.cols a.pads in
    OldAt a.rows a.cols a.pads (a.k / wide) (a.k % wide) × (a.rows * a.cols ≤ max_cells)
old c =
    let b = c.requires.weighable in (
      old-at _ _ _ _ _ (sym c.is_old.ensures ∙ c.if-is_old.true),
      mul-le {m = max_board_side} {n = max_board_side} (omega (arith, b.tall)) (omega (arith, b.wide)),
    )

pub overflow_sub-result : goal.overflow_sub-result
overflow_sub-result c = omega (arith, old (goal.at.overflow_sub-result c).Then-is_old)

pub overflow_mul-result : goal.overflow_mul-result
overflow_mul-result c = record { fits = omega (arith, old (goal.at.overflow_mul-result c).Then-is_old) }

pub overflow_sub-result-then-is_old : goal.overflow_sub-result-then-is_old
overflow_sub-result-then-is_old c = omega (arith, old (goal.at.overflow_sub-result-then-is_old c).Then-is_old)

pub overflow_add-result : goal.overflow_add-result
overflow_add-result c = record { fits = omega (arith, old (goal.at.overflow_add-result c).Then-is_old) }

pub offset_bounds-weights-row : goal.offset_bounds-weights-row
offset_bounds-weights-row c = record { fits = omega (arith, old (goal.at.offset_bounds-weights-row c).Then-is_old) }

pub bounds-weights-row : goal.bounds-weights-row
bounds-weights-row c = omega (arith, old (goal.at.bounds-weights-row c).Then-is_old, c.requires.weighable.held)

pub returns-then-is_old : goal.returns-then-is_old
returns-then-is_old c = weight-kept _ _ _ _ _ _ (sym c.is_old.ensures ∙ c.if-is_old.true)
