-- `scores::aggregate_feasibility` meets its contract: it is the score of its spans with squared fractions. Assumes nothing.
use Rattle.rules.specs.Scores.{squared_fraction, lift_scores}
use Rattle.scores.proofs.aggregate_feasibility.Goals as goal

pub returns : goal.returns
unfolding lift_scores squared_fraction
returns c = c.score_spans.ensures
