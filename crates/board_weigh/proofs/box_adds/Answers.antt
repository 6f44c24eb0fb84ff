-- `board_weigh::box_adds` meets its contract: a loop that adds up along the rows. Assumes nothing.
use Prim.Native.Nat.{◌*◌, ◌<◌, ◌≤◌}
use native.Mathlib.Omega.{arith}
use borrow.Author.Rules.{rules}
use Rattle.base.proofs.Numbers.{rows_apart, mul-le}
use Rattle.rules.specs.Bounds.{max_cells}
use Rattle.board_weigh.specs.Added.{box_adds}
use Rattle.board_weigh.proofs.Adding.{adding-start, adding-turn, adding-done, adding-low, row_low}
use Rattle.board_weigh.proofs.box_adds.Goals as goal

pub loop-row-init : goal.loop-row-init
loop-row-init c = adding-start _ _

pub row_adds-sum-requires : goal.row_adds-sum-requires
row_adds-sum-requires c =
    let b = c.requires.in_board in
    let r = c.loop-row.row in
    let last : r < c.args.rows = omega (arith, c.loop-row-test.true, c.requires.rowspan_le_rows) in
    let cells : c.args.rows * c.args.cols ≤ max_cells = mul-le b.tall b.wide in
    record {
      in_row = record { wide = b.wide; ends = omega (arith, b.long, rows_apart c.args.cols last); short = omega (arith, b.long) };
      colspan_le_cols = search rules;
    }

pub overflow_add-sum : goal.overflow_add-sum
overflow_add-sum c =
    let l = c.loop-row in
    let a = c.args in
    let low = row_low a.pieces.now a.cols a.cell a.spans.cols (omega arith) in
    record { fits = omega (arith, adding-low _ _ l.invariant 192 low (omega arith), c.row_adds-sum.ensures, low l.row) }

pub loop-row-preserved : goal.loop-row-preserved
loop-row-preserved c = adding-turn _ _ c.loop-row.invariant (search rules) c.row_adds-sum.ensures

pub returns : goal.returns
unfolding box_adds
returns c = adding-done _ _ c.loop-row.invariant c.loop-row-test.false
