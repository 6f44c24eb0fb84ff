-- `board_weigh::row_adds` meets its contract: a loop that adds up along the span. Assumes nothing.
use native.Mathlib.Omega.{arith}
use borrow.Author.Rules.{rules}
use Rattle.board_weigh.specs.Added.{row_adds}
use Rattle.board_weigh.proofs.Adding.{adding-start, adding-turn, adding-done, adding-low, added-low}
use Rattle.board_weigh.proofs.row_adds.Goals as goal

pub loop-col-init : goal.loop-col-init
loop-col-init c = adding-start _ _

pub overflow_add-sum : goal.overflow_add-sum
overflow_add-sum c =
    let l = c.loop-col in
    let a = c.args in
    let low = added-low a.pieces.now a.cols a.cell a.row in
    record { fits = omega (arith, adding-low _ _ l.invariant 3 low (omega arith), c.added_by-sum.ensures, low l.col) }

pub loop-col-preserved : goal.loop-col-preserved
loop-col-preserved c = adding-turn _ _ c.loop-col.invariant (search rules) c.added_by-sum.ensures

pub returns : goal.returns
unfolding row_adds
returns c = adding-done _ _ c.loop-col.invariant c.loop-col-test.false
