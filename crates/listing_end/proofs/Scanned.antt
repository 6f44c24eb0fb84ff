-- Laws of the planes and the scan as they are printed, and that a dead end lies on the board.
-- Assumes nothing.
use Prim.Native.Nat.{ℕ, zero, suc, ◌*◌, ◌/◌, ◌%◌, ◌≤◌}
use mathlib.Core.Path.{◌≡◌, sym, ap, subst}
use mathlib.Core.Bool.{Bool, true, false}
use mathlib.Core.List.{List, ◌++◌}
use lib.Dec.{ltb}
use native.Mathlib.Omega.{arith}
use Rattle.base.specs.Counting.{first}
use Rattle.base.specs.Refusal.{refusal}
use Rattle.base.proofs.Bools.{by-test}
use Rattle.base.proofs.Numbers.{mul-le, cell-is}
use Rattle.rules.specs.Tests.{board_sides}
use Rattle.std.specs.Prelude.{Option, Some, None, Ok}
use Rattle.rules.specs.Answers.{Answer, answered, if_there}
use Rattle.rules.specs.Forced.{dead_at, scan_checks, dead_end}
use Rattle.rules.specs.Grid.{Kind, flat, cell_with}
use Rattle.rules.specs.declared.Cell.{Cell}
use Rattle.check_sizes.proofs.Sides.{board-cols, few-cells}
use Rattle.rules.specs.Board.{Board}
use Rattle.listing_job.specs.declared.Setup.{Setup}
use Rattle.listing_lines.specs.Pages.{Prints}
use Rattle.listing_lines.proofs.Written.{writes_as}
use Rattle.listing_end.specs.Ending.{planes_text, end_text, panel_with, dead_end_text, dead_end_start, none_line, scan_text}
use Rattle.listing_end.specs.Near.{Near}

-- ---- the scan, case by case
pub scan-at : {d : Answer (Option Cell)} (cell : Cell) → d ≡ Ok (Some cell) → dead_end_text cell ≡ scan_text d
unfolding scan_text
scan-at cell e = rw e

pub scan-nowhere : {d : Answer (Option Cell)} → d ≡ Ok None → dead_end_start ++ none_line ≡ scan_text d
unfolding scan_text
scan-nowhere e = rw e

pub end_is : {at r : ℕ} {x y : List ℕ} {d : Answer (Option Cell)} (s : Setup) (tiles : List ℕ) (b : Board)
    → d ≡ dead_end flat b.pieces b.weights s.board.rows s.board.cols tiles s.count
    → Prints (planes_text b s.board.cols ++ scan_text d) at x r y → Prints (end_text (panel_with s tiles) s.count b) at x r y
unfolding end_text panel_with
end_is s tiles b e w = writes_as (ap (λ (q : Answer (Option Cell)). planes_text b s.board.cols ++ scan_text q) e) w

-- ---- where a dead end is
first-le : (n : ℕ) (f : ℕ → Bool) → first n f ≤ n
unfolding first
first-le zero f = omega arith
first-le (suc n) f = by-test (f 0) (λ e. rw e (omega arith)) (λ e. rw e (omega (arith, first-le n (λ k. f (suc k)))))

near-answer : (n : ℕ) (t : Bool) (cell : Cell) → cell.0 ≤ 4096 → cell.1 ≤ 4096 → Near (answered n (if_there t cell))
near-answer zero true cell h k = (h, k)
near-answer zero false cell h k = tt
near-answer (suc n) t cell h k = tt

pub dead-end-near : {d : Answer (Option Cell)} (kind : Kind) (pieces weights : List ℕ) (rows cols : ℕ) (tiles : List ℕ) (count : ℕ) → board_sides rows cols ≡ true
    → d ≡ dead_end kind pieces weights rows cols tiles count → Near d
unfolding dead_end
dead-end-near kind pieces weights rows cols tiles count t e =
    subst Near (sym e) (near-answer (refusal (scan_checks pieces weights rows cols tiles count)) (ltb k (rows * cols)) (cell_with cols k) row col)
  where
    k : ℕ
    k = first (rows * cols) (dead_at (kind rows cols) tiles pieces weights count)

    few : k ≤ 4096
    few = omega (arith, first-le (rows * cols) (dead_at (kind rows cols) tiles pieces weights count), few-cells rows cols t)

    row : k / cols ≤ 4096
    row = omega (arith, few, cell-is k cols, mul-le {a = k / cols} {b = 1} {m = k / cols} {n = cols} (omega arith) (board-cols rows cols t).0)

    col : k % cols ≤ 4096
    col = omega (arith, few, cell-is k cols)
