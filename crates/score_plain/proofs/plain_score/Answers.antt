-- `score_plain::plain_score` meets its contract: refused, or the region of the whole board scored. Assumes nothing.
use mathlib.Core.Path.{refl, sym, ◌∙◌}
use native.Mathlib.Omega.{arith}
use Rattle.rules.proofs.Answered.{passed, done}
use Rattle.score_regions.proofs.Scored.{scores-fit}
use Rattle.score_checks.proofs.Accept.{whole-passes}
use Rattle.score_plain.proofs.Whole.{whole-scored}
use Rattle.score_plain.proofs.plain_score.Goals as goal

pub score_region-requires : goal.score_region-requires
score_region-requires c =
    let s = whole-passes _ _ _ _ _ (sym (passed _ _ c.check_whole.ensures c.in_ok-check_whole.was)) in
    scores-fit _ _ _ _ _ s.sides s.planes.scores-long s.planes.counts-long s.planes.number _ _ (omega arith) (omega arith) (omega arith) (omega arith)

pub returns : goal.returns
returns c =
    let a = c.args in
    let all = passed _ _ c.check_whole.ensures c.in_ok-check_whole.was in
    let s = whole-passes _ _ _ _ _ (sym all) in
    done _ _ _ _ all refl (c.score_region.ensures ∙ whole-scored a.scores.now a.counts.now a.rows a.cols a.tiles s.sides s.planes.scores-long)
