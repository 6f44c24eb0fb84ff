-- `score_plain::plain_score_near` meets its contract: it is the score of its spans with plain fractions. Assumes nothing.
use Rattle.rules.specs.Scores.{plain_scores}
use Rattle.score_plain.proofs.plain_score_near.Goals as goal

pub returns : goal.returns
unfolding plain_scores
returns c = c.score_spans.ensures
