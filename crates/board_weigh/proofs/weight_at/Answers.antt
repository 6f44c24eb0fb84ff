-- `board_weigh::weight_at` meets its contract: the spans round the cell, and what stands in them adds. Assumes nothing.
use native.Mathlib.Omega.{arith}
use Rattle.board_weigh.proofs.Adding.{box-low}
use Rattle.board_weigh.proofs.Weighed.{near-ends, both-near, weight_is}
use Rattle.board_weigh.proofs.weight_at.Goals as goal

pub box_adds-requires : goal.box_adds-requires
box_adds-requires c =
    let on = c.requires in
    record {
      in_board = record { tall = on.tall; wide = on.wide; long = on.long };
      rowspan_le_rows = near-ends _ c.near_span.ensures;
      colspan_le_cols = near-ends _ c.near_span-2.ensures;
    }

pub overflow_add-result : goal.overflow_add-result
overflow_add-result c =
    let a = c.args in
    let low =
    box-low a.pieces.now a.cols a.cell (record { rows = c.near_span.result; cols = c.near_span-2.result }) (omega (arith, near-ends _ c.near_span.ensures, c.requires.tall)) (omega (arith, near-ends _ c.near_span-2.ensures, c.requires.wide)) in
    record { fits = omega (arith, c.box_adds.ensures, low) }

pub returns : goal.returns
returns c = weight_is _ _ _ _ c.requires (both-near _ _ _ c.near_span.ensures c.near_span-2.ensures) c.box_adds.ensures
