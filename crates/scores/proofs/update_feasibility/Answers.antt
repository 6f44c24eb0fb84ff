-- `scores::update_feasibility` meets its contract: refused, or the cells past the targets scored. Assumes nothing.
use mathlib.Core.Path.{refl, sym, ◌∙◌}
use Prim.Native.Nat.{◌<◌, ◌≤◌}
use native.Mathlib.Omega.{arith}
use Rattle.check_sizes.proofs.Sides.{board-rows, board-cols}
use Rattle.rules.specs.Places.{cell_of}
use Rattle.rules.proofs.Answered.{passed, done}
use Rattle.places.proofs.Indices.{row_below, col-below}
use Rattle.place_spans.proofs.Spanned.{never-refused, spans-round}
use Rattle.score_regions.specs.Region.{past_targets}
use Rattle.score_regions.proofs.Scored.{scores-fit}
use Rattle.score_checks.proofs.Accept.{lay-passes}
use Rattle.scores.proofs.Region.{lay-scored}
use Rattle.scores.proofs.update_feasibility.Goals as goal

pub returns-in_err-round : goal.returns-in_err-round
returns-in_err-round c =
    let s = lay-passes _ _ _ _ _ _ _ (sym (passed _ _ c.check_lay.ensures c.in_ok-check_lay.was)) in
    absurd (never-refused _ _ _ _ 2 s.place (omega arith) c.get_region_spans.ensures c.in_err-round.was)

pub past_targets-requires : goal.past_targets-requires
past_targets-requires c =
    let a = c.args in
    let s = lay-passes _ _ _ _ _ _ _ (sym (passed _ _ c.check_lay.ensures c.in_ok-check_lay.was)) in
    let x : (cell_of a.place a.offset).0 < a.rows = row_below a.rows a.cols a.place a.offset s.place.boarded in
    let n : a.rows ≤ 64 = (board-rows a.rows a.cols s.sides).1 in
    rw (spans-round _ _ _ _ 2 s.place (omega arith) c.get_region_spans.ensures c.in_ok-round.was) (omega arith, omega arith)

pub past_targets-requires-2 : goal.past_targets-requires-2
past_targets-requires-2 c =
    let a = c.args in
    let s = lay-passes _ _ _ _ _ _ _ (sym (passed _ _ c.check_lay.ensures c.in_ok-check_lay.was)) in
    let x : (cell_of a.place a.offset).1 < a.cols = col-below a.rows a.cols a.place a.offset s.place.boarded in
    let n : a.cols ≤ 64 = (board-cols a.rows a.cols s.sides).1 in
    rw (spans-round _ _ _ _ 2 s.place (omega arith) c.get_region_spans.ensures c.in_ok-round.was) (omega arith, omega arith)

pub score_region-requires : goal.score_region-requires
score_region-requires c =
    let a = c.args in
    let s = lay-passes _ _ _ _ _ _ _ (sym (passed _ _ c.check_lay.ensures c.in_ok-check_lay.was)) in
    rw (c.past_targets.ensures, c.past_targets-2.ensures)
    (scores-fit _ _ _ _ _ s.sides s.scored.planes.scores-long s.scored.planes.counts-long s.scored.planes.number (past_targets a.rows _) (past_targets a.cols _)
    (omega arith) (omega arith) (omega arith) (omega arith))

pub returns : goal.returns
returns c =
    let a = c.args in
    let all = passed _ _ c.check_lay.ensures c.in_ok-check_lay.was in
    let s = lay-passes _ _ _ _ _ _ _ (sym all) in
    done _ _ _ _ all refl
    (c.score_region.ensures
    ∙ rw (c.past_targets.ensures, c.past_targets-2.ensures)
    (lay-scored a.scores.now a.counts.now a.rows a.cols a.tiles s.sides s.scored.planes.scores-long a.place a.offset s.place.boarded
    (spans-round _ _ _ _ 2 s.place (omega arith) c.get_region_spans.ensures c.in_ok-round.was)))
