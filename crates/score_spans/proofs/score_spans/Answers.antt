-- `score_spans::score_spans` meets its contract: refused, or the region of its spans scored. Assumes nothing.
use mathlib.Core.Path.{refl, sym, ◌∙◌}
use native.Mathlib.Omega.{arith}
use Rattle.rules.proofs.Answered.{passed, done}
use Rattle.score_regions.proofs.Scored.{scores-fit}
use Rattle.score_checks.proofs.Accept.{spans-pass}
use Rattle.score_spans.specs.Spans.{ordered_span}
use Rattle.score_spans.proofs.Region.{spans-scored}
use Rattle.score_spans.proofs.score_spans.Goals as goal

pub score_region-requires : goal.score_region-requires
score_region-requires g c =
    let a = c.args in
    let s = spans-pass _ _ _ _ _ a.spans.rows a.spans.cols (sym (passed _ _ c.check_spans.ensures c.in_ok-check_spans.was)) in
    rw (c.ordered.ensures, c.ordered-2.ensures)
    (scores-fit _ _ _ _ _ s.sides s.scored.planes.scores-long s.scored.planes.counts-long s.scored.planes.number (ordered_span a.spans.rows) (ordered_span a.spans.cols)
    (omega arith) s.rows_end (omega arith) s.cols-end)

pub returns : goal.returns
returns g c =
    let a = c.args in
    let all = passed _ _ c.check_spans.ensures c.in_ok-check_spans.was in
    let s = spans-pass _ _ _ _ _ a.spans.rows a.spans.cols (sym all) in
    done _ _ _ _ all refl
    (c.score_region.ensures
    ∙ rw (c.ordered.ensures, c.ordered-2.ensures)
    (spans-scored a.scores.now a.counts.now a.rows a.cols a.tiles s.sides s.scored.planes.scores-long g.T.Term.of a.spans.rows a.spans.cols))
