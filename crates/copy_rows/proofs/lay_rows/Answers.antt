-- `copy_rows::lay_rows` meets its contract: a loop over a region of the larger plane, in which each row's part becomes that row.
-- Assumes nothing.
use Prim.Native.Nat.{◌+◌, ◌*◌, ◌≤◌}
use native.Mathlib.Omega.{arith}
use lib.ListN.{length}
use borrow.Author.Rules.{rules}
use Rattle.check_sizes.proofs.Sides.{board-cols}
use Rattle.copy_checks.specs.Laid.{rows_laid}
use Rattle.copy_checks.proofs.Copied.{laid-start, next_row, laid-turn, laid_done}
use Rattle.copy_rows.proofs.lay_rows.Goals as goal

pub overflow_add-wide : goal.overflow_add-wide
overflow_add-wide g c = record { fits = omega (arith, (board-cols _ _ c.requires.new-sides).1) }

pub overflow_add-wide-2 : goal.overflow_add-wide-2
overflow_add-wide-2 g c = record { fits = omega (arith, (board-cols _ _ c.requires.new-sides).1) }

pub loop-i-init : goal.loop-i-init
loop-i-init g c = laid-start c.requires (omega arith) (omega arith)

pub overflow_add-from : goal.overflow_add-from
overflow_add-from g c = record { fits = omega (arith, next_row c.loop-i.invariant c.loop-i.auto.target c.loop-i-test.true) }

pub overflow_add-from-in-loop-i : goal.overflow_add-from-in-loop-i
overflow_add-from-in-loop-i g c = record { fits = omega (arith, next_row c.loop-i.invariant c.loop-i.auto.target c.loop-i-test.true) }

pub overflow_add-from-in-loop-i-2 : goal.overflow_add-from-in-loop-i-2
overflow_add-from-in-loop-i-2 g c = record { fits = omega (arith, next_row c.loop-i.invariant c.loop-i.auto.target c.loop-i-test.true) }

pub offset_bounds-target-from : goal.offset_bounds-target-from
offset_bounds-target-from g c =
    let a = c.args in
    let inside : (a.pads.left + c.loop-i.i) * (a.pads.top + a.cols + a.pads.bottom) + a.pads.top ≤ length c.loop-i.target
    = omega (arith, next_row c.loop-i.invariant c.loop-i.auto.target c.loop-i-test.true)
    in
    search rules

pub slice_bounds-lay_row-end : goal.slice_bounds-lay_row-end
slice_bounds-lay_row-end g c = (next_row c.loop-i.invariant c.loop-i.auto.target c.loop-i-test.true).laid_in

pub loop-i-preserved : goal.loop-i-preserved
loop-i-preserved g c = laid-turn c.loop-i.invariant c.loop-i.auto.target c.loop-i-test.true c.lay_row.ensures

pub returns : goal.returns
unfolding rows_laid
returns g c = laid_done c.loop-i.invariant c.loop-i-test.false
