-- `board_recount::recount_near` meets its contract: a sweep over the rows of the spans. Assumes nothing.
use Prim.Native.Nat.{◌+◌, ◌*◌, ◌≤◌}
use mathlib.Core.Path.{refl}
use native.Mathlib.Omega.{arith}
use lib.ListN.{length}
use Rattle.base.proofs.Sweep.{length_part}
use Rattle.base.proofs.Regions.{region-start, row_room, region-row, region-done}
use Rattle.rules.specs.Grid.{flat}
use Rattle.board_recount.specs.Recounted.{recounted_by, recounted_in}
use Rattle.board_recount.proofs.recount_near.Goals.{In-loop-row}
use Rattle.board_recount.proofs.recount_near.Goals as goal

-- the row is in the plane
room : (c : In-loop-row)
    → let a = c.args in c.loop-row.row * a.cols + a.cols ≤ length a.counts.now
room c =
    let a = c.args in
    let l = c.loop-row in
    omega (arith, row_room 0 (recounted_by (flat a.rows a.cols) a.cols a.tiles.now a.pieces.now) _ _ _ _ _ _ c.requires.0.region l.invariant c.loop-row-test.true, l.invariant.long)

pub loop-row-init : goal.loop-row-init
loop-row-init c =
    let a = c.args in region-start 0 (recounted_by (flat a.rows a.cols) a.cols a.tiles.now a.pieces.now) _ _ _ _ _ _ c.requires.0.region

pub overflow_mul-from : goal.overflow_mul-from
overflow_mul-from c = record { fits = omega (arith, room c, c.requires.0) }

pub overflow_add-from : goal.overflow_add-from
overflow_add-from c = record { fits = omega (arith, room (goal.at.overflow_add-from c).In-loop-row, c.requires.0, c.requires.0.region) }

pub overflow_mul-to : goal.overflow_mul-to
overflow_mul-to c = record { fits = omega (arith, room (goal.at.overflow_mul-to c).In-loop-row, c.requires.0) }

pub overflow_add-to : goal.overflow_add-to
overflow_add-to c = record { fits = omega (arith, room (goal.at.overflow_add-to c).In-loop-row, c.requires.0, c.requires.0.region) }

pub recount_row-requires : goal.recount_row-requires
recount_row-requires c =
    let l = c.loop-row in
    let a = c.args in
    let g = c.requires.0.region in
    let from = l.row * a.cols + a.spans.cols.0 in
    let to = l.row * a.cols + a.spans.cols.1 in (
      c.requires.1,
      omega (arith, c.loop-row-test.true, c.requires.0.bottom),
      omega (arith, length_part l.counts from to (omega (arith, room (goal.at.recount_row-requires c).In-loop-row, g, l.invariant.long)), g),
    )

pub loop-row-preserved : goal.loop-row-preserved
loop-row-preserved c =
    let l = c.loop-row in
    let a = c.args in
    region-row 0 (recounted_by (flat a.rows a.cols) a.cols a.tiles.now a.pieces.now) _ _ _ _ _ _ c.requires.0.region l.invariant (l.row * a.cols + a.spans.cols.0) (l.row * a.cols + a.spans.cols.1) refl refl c.loop-row-test.true
    c.recount_row.ensures

pub returns : goal.returns
unfolding recounted_in
returns c =
    let a = c.args in
    region-done 0 (recounted_by (flat a.rows a.cols) a.cols a.tiles.now a.pieces.now) _ _ _ _ _ _ c.requires.0.region c.loop-row.invariant c.loop-row-test.false
