-- `board_recount::recount_row` meets its contract: a sweep along the row. Assumes nothing.
use native.Mathlib.Omega.{arith}
use Rattle.base.proofs.Regions.{row-none, row-turn, row_done}
use Rattle.rules.specs.Grid.{flat}
use Rattle.board_recount.specs.Recounted.{recounted_by}
use borrow.Author.Rules.{rules}
use Rattle.board_recount.proofs.recount_row.Goals as goal

pub loop-j-init : goal.loop-j-init
loop-j-init c = let a = c.args in row-none 0 (recounted_by (flat a.rows a.cols) a.cols a.tiles.now a.pieces.now) a.row a.left

pub count_after-requires : goal.count_after-requires
count_after-requires c =
    (c.requires.0, record { rowwise = c.requires.1; colwise = omega (arith, c.requires.2, c.loop-j.invariant.long) })

pub loop-j-preserved : goal.loop-j-preserved
loop-j-preserved c =
    let a = c.args in
    row-turn 0 (recounted_by (flat a.rows a.cols) a.cols a.tiles.now a.pieces.now) a.row a.left c.loop-j.invariant (search rules) c.count_after.ensures

pub returns : goal.returns
returns c =
    let a = c.args in
    row_done 0 (recounted_by (flat a.rows a.cols) a.cols a.tiles.now a.pieces.now) a.row a.left c.loop-j.invariant (search rules)
